-- The definitions of this crate: facts on smallest maps and sets, and facts on route tables.
pub mod Smallest
pub mod Routes
