-- The definitions of this crate: sets of addresses, and their operations.
pub mod Breaks
pub mod Counts
pub mod Sweeps
pub mod Appends
pub mod Builders
pub mod Networks
pub mod Ranges
pub mod Walks
pub mod Joint
pub mod Laws
