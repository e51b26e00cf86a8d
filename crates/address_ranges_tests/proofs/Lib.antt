-- The proofs of the facts.
pub mod FewestFacts
