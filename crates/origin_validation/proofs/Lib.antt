-- The lemmas of this crate.
pub mod Latest
pub mod Lengths
pub mod Steps
pub mod Walked
