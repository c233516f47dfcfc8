pub mod values_lemmas
pub mod rows_lemmas
pub mod passes_lemmas
pub mod objects_lemmas
