-- Worked examples: what the definitions say of small numbers and short lists. No definition rests on them.
pub mod Numbers
pub mod Codes
pub mod Calls
