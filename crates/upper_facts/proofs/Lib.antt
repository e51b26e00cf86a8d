-- The proofs of the facts, from the listings of the examples.
pub mod Smallest
pub mod Routes
