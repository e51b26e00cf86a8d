-- The second table of a split, while values come to it.
pub mod ValueWrites
pub mod ValueCounts
pub mod FilledTables
pub mod MovedParts
pub mod PackedBlocks
pub mod SplitTables
pub mod NextValue
pub mod SecondValues
