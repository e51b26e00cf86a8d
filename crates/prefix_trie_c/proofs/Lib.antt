-- The lemmas of the C interface, and the ghost steps of its handles.
mod Arrays
mod CompiledHandles
mod Each
mod Groups
mod Handles
mod Held
mod LongestMatches
mod Pointers
mod Values
