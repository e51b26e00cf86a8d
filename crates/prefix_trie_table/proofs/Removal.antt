-- What the calls that remove entries leave.
pub mod ClearedTables
pub mod Items
pub mod FreedBlocks
pub mod OneEntry
pub mod Pruning
pub mod NodesLeft
pub mod ShrinkingLists
pub mod GrowthBounds
pub mod AllBelow
pub mod MaskListings
pub mod RemovedParts
pub mod SizeBounds
pub mod GrowthOfArrays
pub mod ModelSizes
pub mod BlockSizes
