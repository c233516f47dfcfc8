pub mod Kind
pub mod Lanes
pub mod SmallNumbers
pub mod Factors
pub mod Additive
pub mod Twisted
pub mod StridedRows
pub mod Sums
