-- The definitions of this crate: union, intersection and difference, coverage, redundant entries, smallest maps and sets, and loans.
pub mod Choosing
pub mod Combining
pub mod Covered
pub mod CoveringUnion
pub mod Filling
pub mod Laws
pub mod Lending
pub mod Merging
pub mod Optimal
pub mod Parts
pub mod Smallest
pub mod SmallestSets
pub mod Values
pub mod ValueSets
