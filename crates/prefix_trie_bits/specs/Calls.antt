-- Definitions that contracts of calls use and the contract of `replay::run` does not.
pub mod Retaining
pub mod SplitsOff
pub mod WritingWalk
pub mod NodeListings
pub mod Entries
pub mod Matches
pub mod Nodes
pub mod Blocks
pub mod Storage
