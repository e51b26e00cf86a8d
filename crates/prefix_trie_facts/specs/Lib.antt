-- The definitions of this crate: the worked rows of the model, and the worked facts.
pub mod Rows
pub mod Facts
