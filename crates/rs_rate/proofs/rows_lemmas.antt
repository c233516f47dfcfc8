-- Lemmas of rows: the shards in them, the marks of a decoder, and the states that the rows stand for.
pub mod StateLemmas
pub mod ShardRowsLemmas
pub mod RowMaps
pub mod HowMany
pub mod AddedShards
pub mod FirstShards
pub mod DecoderRows
pub mod ResultLemmas
pub mod ByteSums
