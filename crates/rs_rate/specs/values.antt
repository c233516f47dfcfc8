-- Configurations, the numbers of rows and chunks that follow from them, and when direct sums cost less than transforms.
pub mod ChunkCounts
pub mod Configured
pub mod SetUp
pub mod RowCounts
pub mod SumCosts
