pub mod HexLemmas
pub mod NumberLemmas
pub mod ReadingLemmas
pub mod ListedLemmas
pub mod PrintedLemmas
pub mod WritingLemmas
