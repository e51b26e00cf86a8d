-- The definitions of this crate that the contract of `replay::run` reaches.
pub mod Replay
