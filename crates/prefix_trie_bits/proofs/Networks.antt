-- Networks as numbers: their first and last addresses, their parents and their order.
pub mod Ends
pub mod Parents
pub mod Order
pub mod Subnets
