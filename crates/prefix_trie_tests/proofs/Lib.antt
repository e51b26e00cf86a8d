-- The lemmas of the tests: allocators, generic callers, bulk lookups, runs, and written walks.
pub mod Prelude
pub mod Allocators
pub mod AnyMap
pub mod Batches
pub mod Ran
pub mod Swapping
