-- The definitions of this crate: lookups of addresses of both families, and the smallest joint maps and sets.
pub mod Smallest
