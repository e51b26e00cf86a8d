-- The lemmas of this crate.
pub mod Families
pub mod Joined
pub mod Changes
pub mod Matches
pub mod Retain
pub mod Walks
pub mod Writing
pub mod Resuming
pub mod CollectedItems
pub mod FamilyLaws
pub mod Filled
pub mod Texts
pub mod Units
