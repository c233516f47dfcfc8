-- Lemmas of the passes over rows: encoding, decoding, direct sums and changes.
pub mod ZeroPadded
pub mod LowCoding
pub mod HighCoding
pub mod EncodeCounting
pub mod Coded
pub mod RestoringRows
pub mod RestoredRows
pub mod Erased
pub mod DecodedColumns
pub mod BaseAnswer
pub mod DecodeAnswer
pub mod DirectRows
pub mod LocatedOnce
pub mod SumLemmas
pub mod SplitSums
pub mod ChangeLemmas
pub mod Reading
