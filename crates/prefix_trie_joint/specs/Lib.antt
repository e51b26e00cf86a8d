-- The definitions of this crate: networks of both families, their texts, and the entries of both families as one map.
pub mod Changes
pub mod Collected
pub mod Entry
pub mod Joined
pub mod Laws
pub mod Lending
pub mod Networks
pub mod Retained
pub mod Subnets
pub mod Texts
pub mod Writing
