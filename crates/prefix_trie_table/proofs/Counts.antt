-- Counting nodes, entries and blocks: for `node_count`, `len` and the numbers of blocks.
pub mod VisitCounts
pub mod EntryCounts
pub mod NodeCounts
pub mod BlockCounts
pub mod BlockUsers
pub mod OwnCounts
