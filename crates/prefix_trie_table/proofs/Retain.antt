-- Calling a test on entries one after another: for `retain`.
pub mod TestCalls
pub mod TestCallsBelow
pub mod RetainedTables
pub mod CurrentValue
pub mod CurrentPlaces
pub mod CurrentChild
pub mod FromRoot
