-- The definitions of this crate: keys and networks, the strings and places of a node, and the model with its laws.
pub mod BitStrings
pub mod Begins
pub mod Windows
pub mod Order
pub mod Comparing
pub mod Keys
pub mod Places
pub mod Bitmaps
pub mod Walks
pub mod Model
pub mod Refusals
pub mod Networks
pub mod Texts
pub mod Laws
pub mod Calls
