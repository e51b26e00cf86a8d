-- The lemmas of this crate: paths, blocks, the tree by path, and then the lemmas for each kind of call.
pub mod Prelude
pub mod Strings
pub mod Blocks
pub mod Tree
pub mod Lookup
pub mod Walk
pub mod Insertion
pub mod Removal
pub mod Retain
pub mod Counts
pub mod Moving
pub mod Splitting
