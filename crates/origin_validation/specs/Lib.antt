-- The definitions of this crate: what origin validation returns, and how VRPs are found.
pub mod Chains
pub mod Validation
