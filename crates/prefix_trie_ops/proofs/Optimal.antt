-- The proof that `aggregate` keeps each full-width lookup and leaves as few entries as possible.
pub mod LongestMatches
pub mod Order
pub mod Fronts
pub mod Positions
pub mod KeyCounts
pub mod Choosing
pub mod RebuiltParts
pub mod Least
pub mod Whole
pub mod PartCosts
