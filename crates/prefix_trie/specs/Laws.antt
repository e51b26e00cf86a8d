-- What a caller's proof needs of maps, as statements for contracts.
pub mod Stored
pub mod Lookups
pub mod Putting
pub mod Comparing
pub mod Joining
pub mod Paging
pub mod Paths
pub mod Networks
pub mod Numbers
pub mod Rewriting
