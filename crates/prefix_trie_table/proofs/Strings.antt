-- Bit strings and paths of chunks, bitmaps, and small facts on numbers and options.
pub mod Digits
pub mod SmallFacts
pub mod Bits
pub mod BitLists
pub mod Paths
pub mod Beginnings
pub mod Keys
pub mod PathLists
pub mod PathSums
pub mod BareBitmaps
pub mod ChunkPlaces
pub mod PathStrings
pub mod KeySums
