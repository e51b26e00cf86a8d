-- The definitions of the examples: the preferred value of a key, and what messages do to a table.
pub mod Preferences
pub mod Updates
