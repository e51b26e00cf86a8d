-- The definitions of this crate: divisions of all addresses into ranges, tables of maps, searches, the index, and laws.
pub mod Bulk
pub mod Compiled
pub mod Equality
pub mod Gaps
pub mod Index
pub mod Laws
pub mod Layouts
pub mod Line
pub mod Ranges
pub mod Search
pub mod Sizes
pub mod Sweep
pub mod Tables
