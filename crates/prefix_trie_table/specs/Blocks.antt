-- The two arrays of a table, and how they are cut into blocks.
pub mod Store
pub mod Cells
pub mod Slots
pub mod NodeArrays
pub mod Runs
pub mod Growth
pub mod Losing
pub mod BlockCounts
