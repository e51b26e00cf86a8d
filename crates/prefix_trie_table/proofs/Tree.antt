-- The tree in the two arrays, read by paths, and what contracts see of it.
pub mod Trees
pub mod Invariant
pub mod Children
pub mod Values
pub mod Shapes
pub mod GrowthLoop
pub mod SearchEnds
pub mod Ancestors
pub mod Subtrees
pub mod KeptTables
pub mod TableCopies
pub mod Capacities
pub mod ModelSteps
