-- The definitions of this crate: the model of a run, sets, and the laws for callers.
pub mod Rewriting
pub mod Laws
pub mod Networks
pub mod Sets
pub mod Reads
pub mod NotesFall
pub mod Terms
pub mod Model
