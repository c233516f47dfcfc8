pub mod words
pub mod code
pub mod rows
pub mod worked
