-- The model that contracts compare a map with: its entries, its nodes, its storage, and what each
-- call returns and changes.
-- These files, with those in `specs/Model` of `prefix_trie_table` and `prefix_trie`, have exactly
-- the definitions that the contract of `replay::run` reaches.
pub mod Entries
pub mod Selections
pub mod Matches
pub mod Nodes
pub mod Visits
pub mod Addresses
pub mod Blocks
pub mod Step
pub mod Space
pub mod Insertion
pub mod Storage
pub mod Counted
pub mod Bits
pub mod Order
pub mod Keys
