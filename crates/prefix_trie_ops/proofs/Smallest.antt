-- The theory of smallest tables, without code: which values a smallest table of a part can begin with, how many entries
-- it has, and that no table with the same answers has fewer. Also the lists of values that `aggregate` stores.
pub mod Sets
pub mod Costs
pub mod Lower
pub mod Ranges
pub mod JoinedLists
pub mod StoredSets
pub mod InOrder
