-- The definitions of this crate: facts about the fewest networks.
pub mod Facts
