-- The rows of encoders and decoders: shards in rows, marks, memory, and the states that the rows stand for.
pub mod Memory
pub mod ShardRows
pub mod EncoderView
pub mod Marks
pub mod Entering
pub mod DecoderRoom
pub mod DecoderView
pub mod RowsLaws
