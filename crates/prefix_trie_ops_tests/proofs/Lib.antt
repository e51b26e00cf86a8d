-- The lemmas of the examples: updating a table, preferring one table, and reducing a list.
pub mod Updating
pub mod Preferring
pub mod Reducing
