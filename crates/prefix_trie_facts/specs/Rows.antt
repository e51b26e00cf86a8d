-- Worked rows: the replies to lists of calls, by subject. The rows have the same numbers in `prefix_trie_rows`.
pub mod Examples
pub mod Lookups
pub mod Walks
pub mod Removals
pub mod Limits
pub mod Widths
pub mod Addresses
