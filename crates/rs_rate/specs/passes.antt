-- What the passes over rows compute: encoding, decoding and direct sums.
pub mod Coding
pub mod Decoding
pub mod Located
pub mod Sums
pub mod BaseSum
pub mod Reading
