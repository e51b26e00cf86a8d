-- The order of a listing: a string comes before its extensions, and 0 before 1 at the first
-- difference.
-- From the Rust crate's documentation of its iterators: lexicographic order.
use Rattle.std.proofs.Common.{is_eq, Bool, List, Ordering}
use Rattle.std.specs.Ordering.{bool_cmp}
use Rattle.std.specs.Cmp.Lexicographic.{slice_cmp}

-- the order, as a comparison
abbrev pub listing_cmp : List Bool → List Bool → Ordering
listing_cmp = slice_cmp bool_cmp

-- whether two strings are equal
abbrev pub same_string : List Bool → List Bool → Bool
same_string s t = is_eq (listing_cmp s t)
