-- Rows of chunks: their symbols, steps on them, layers, lending, and where shards lie. They rest on `words`, and on
-- columns of shards of `code`.
pub mod Rows
pub mod View
pub mod MarkedRows
pub mod Pairs
pub mod TwoLayers
pub mod Written
pub mod Changed
pub mod Layers
pub mod Directions
pub mod Lending
pub mod Layout
pub mod AddedRows
