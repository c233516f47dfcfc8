-- Lemmas about adding the items of an iterator to an encoder or a decoder, one after another.
pub mod Giving
pub mod Noting
pub mod OneCall
