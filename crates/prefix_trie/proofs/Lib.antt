-- The lemmas of this crate: what callers may conclude from contracts, and that each call of a run is a step of the model.
pub mod Prelude
pub mod Always
pub mod Putting
pub mod Rewriting
pub mod Callers
pub mod CollectedItems
mod Stored
mod Lookups
mod Paths
mod Networks
mod Joining
pub mod ModifiedEntries
mod Comparing
mod Paging
mod TidyMaps
mod ByPrefix
mod CountedSteps
mod RemovalReplies
mod SameKeys
mod WalkItems
mod Closures
