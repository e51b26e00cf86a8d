-- Walks over entries: those that start at a string, those that write, and those that move values
-- out.
pub mod Levels
pub mod Stacks
pub mod NextPlaces
pub mod Spots
pub mod CombinedNodes
pub mod CombinedSpots
pub mod ItemsToCome
pub mod Selections
pub mod StartStacks
pub mod SkippedEntries
pub mod KeySets
pub mod Seats
pub mod Taking
