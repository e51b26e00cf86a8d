-- What an insertion needs, allocates and leaves.
pub mod Additions
pub mod ExtendedPaths
pub mod InsertedStorage
pub mod InsertionEffects
pub mod Spaces
pub mod Placements
pub mod PredictedNeeds
pub mod NewSizes
pub mod Needs
