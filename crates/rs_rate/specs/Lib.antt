pub mod values
pub mod rows
pub mod passes
pub mod objects
