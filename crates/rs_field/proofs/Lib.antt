pub mod words_lemmas
pub mod code_lemmas
pub mod rows_lemmas
pub mod Walking
