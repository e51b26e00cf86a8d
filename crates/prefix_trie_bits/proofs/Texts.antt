-- The texts of networks and of numbers.
pub mod Bytes
pub mod Decimals
pub mod Slashes
pub mod ParseResults
pub mod Hosts
pub mod Inline
pub mod FullGroups
pub mod Laws
pub mod Octets
