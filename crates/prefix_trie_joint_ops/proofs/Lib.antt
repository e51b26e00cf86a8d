-- The lemmas of this crate.
pub mod Combined
pub mod Reduced
pub mod Least
pub mod Compared
