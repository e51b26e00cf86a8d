-- The definitions that contracts cite.
pub mod Walks
pub mod Keys
pub mod Paths
pub mod Counts
pub mod Slots
pub mod Forwarding
pub mod Needs
pub mod Refusals
pub mod Laws
