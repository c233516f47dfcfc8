-- Lemmas of counts, frames and configurations.
pub mod PowerLemmas
pub mod HighCounts
pub mod RateLemmas
pub mod FrameLemmas
pub mod ConfiguredLemmas
