-- Encoders, decoders and their results, and functions that add shards one after another.
pub mod ResultView
pub mod Loan
pub mod ObjectLaws
pub mod Calls
pub mod Giving
pub mod StripView
