pub mod Blocks
pub mod Files
pub mod Losing
pub mod SwappedRows
