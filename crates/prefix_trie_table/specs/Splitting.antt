-- The second table of a split, from the lists that are built for it to its last value.
pub mod Skeleton
pub mod Moving
pub mod Building
pub mod Built
