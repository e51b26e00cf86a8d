-- A table that is built with all its blocks before its values come.
pub mod LongerLists
pub mod AttachedSubtrees
pub mod BuiltSubtrees
pub mod Sources
pub mod FreshArrays
pub mod Space
pub mod WholeTree
pub mod RootSpace
pub mod Parts
pub mod VacantTables
