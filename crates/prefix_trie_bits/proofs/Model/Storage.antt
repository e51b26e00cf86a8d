-- What the calls of the model may leave of blocks and slots.
pub mod Paths
pub mod StorageChanges
pub mod Slots
pub mod KeyCounts
pub mod ShrunkBlocks
pub mod Refusals
pub mod Insertions
pub mod Removals
pub mod PreparedInsertions
pub mod InsertedBlocks
pub mod StoredMaps
