-- What the contracts of the C interface say.
pub mod Calls
pub mod Compiled
pub mod Entries
pub mod Held
pub mod HeldCompiled
pub mod Lent
