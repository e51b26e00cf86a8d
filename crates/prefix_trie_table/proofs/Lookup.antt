-- Lookups, matches and covers, and values lent.
pub mod Descents
pub mod DescentEnds
pub mod SearchPaths
pub mod NodeSeats
pub mod PathEnds
pub mod NodeMatches
pub mod EntryMatches
pub mod NodeCovers
pub mod EntryCovers
pub mod Lending
pub mod Locations
pub mod Bulk
pub mod BulkRounds
