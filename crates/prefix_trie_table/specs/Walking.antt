-- Walks over the entries of a table.
pub mod Walks
pub mod Items
pub mod Covers
pub mod Starts
pub mod Taking
pub mod Cursors
pub mod Combined
