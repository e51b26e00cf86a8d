-- The lemmas of this crate: the bits, masks and places of a node, keys and networks, and the laws of the model.
pub mod Prelude
pub mod Checks
pub mod Tables
pub mod Bitmaps
pub mod Listing
pub mod PlaceOrder
pub mod MaskedPlaces
pub mod Ranks
pub mod Picks
pub mod Strings
pub mod NodeMatches
pub mod Model
pub mod Networks
pub mod Texts
