-- The worked rows, examples and facts of the model, which the plain model proves by computing.
pub mod Prelude
pub mod Plain
pub mod Rows
pub mod Examples
pub mod Blocks
pub mod Insertions
pub mod Steps
pub mod Replies
