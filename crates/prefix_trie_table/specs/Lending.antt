-- What is left after a `&mut` to a value was returned. This project's own.
pub mod Blocks
pub mod Tables
