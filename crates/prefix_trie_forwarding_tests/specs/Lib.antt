-- The definitions that the contract of the example cites.
pub mod Routing
