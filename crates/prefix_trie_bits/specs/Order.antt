-- The order of a listing in words, and that it is total.
use Rattle.std.proofs.Common.{◌≡◌, ◌≢◌, ◌⊎◌, ◌<◌, Bool, true, false, List, [], ◌∷◌, ◌++◌, length, refl, arith, Less, Equal}
use Rattle.std.specs.Ordering.{bool_cmp}
use Rattle.std.specs.Cmp.{IsTotalOrder, bool_cmp_total}
use Rattle.std.specs.Cmp.Lexicographic.{lists_total}
use Rattle.std.specs.FinMap.{IsAntisymmetric, slice_cmp-IsAntisymmetric}
use Rattle.prefix_trie_bits.specs.Model.Bits.{begins}
use Rattle.prefix_trie_bits.specs.Model.Order.{listing_cmp}

-- the same order in words: s is before t if s begins t and is another string, or s has 0 and t has 1 at the first difference
abbrev pub IsBefore : List Bool → List Bool → Type 0
IsBefore s t =
    ((begins s t ≡ true) × (s ≢ t))
    ⊎ ((common : List Bool) × (x : List Bool) × (y : List Bool) × (s ≡ common ++ false ∷ x) × (t ≡ common ++ true ∷ y))

-- it is a total order
pub listing_total : IsTotalOrder listing_cmp
listing_total = lists_total bool_cmp_total

bits-same : IsAntisymmetric bool_cmp
bits-same true true e = refl
bits-same false false e = refl
bits-same a b e = cc

-- strings that tie are equal
pub listing_same : IsAntisymmetric listing_cmp
listing_same = slice_cmp-IsAntisymmetric bits-same

-- a string ties with itself
pub listing-refl : (s : List Bool) → listing_cmp s s ≡ Equal
listing-refl [] = refl
listing-refl (true ∷ s) = listing-refl s
listing-refl (false ∷ s) = listing-refl s

-- a common beginning does not matter
pub listing-common : (s t u : List Bool) → listing_cmp (s ++ t) (s ++ u) ≡ listing_cmp t u
listing-common [] t u = refl
listing-common (true ∷ s) t u = listing-common s t u
listing-common (false ∷ s) t u = listing-common s t u

-- a string is before its extensions
pub listing-extension : (s t : List Bool) → begins s t ≡ true → length s < length t → listing_cmp s t ≡ Less
unfolding begins
listing-extension [] [] e h = absurd (omega (arith, h))
listing-extension [] (b ∷ t) e h = refl
listing-extension (true ∷ s) (true ∷ t) e h = listing-extension s t e (omega (arith, h))
listing-extension (false ∷ s) (false ∷ t) e h = listing-extension s t e (omega (arith, h))
listing-extension s t e h = cc

-- strings that differ within both stay in order, whatever follows them
pub listing-apart : (s t x y : List Bool) → listing_cmp s t ≡ Less → begins s t ≡ false → listing_cmp (s ++ x) (t ++ y) ≡ Less
unfolding begins
listing-apart (true ∷ s) (true ∷ t) x y l e = listing-apart s t x y l e
listing-apart (false ∷ s) (true ∷ t) x y l e = refl
listing-apart (false ∷ s) (false ∷ t) x y l e = listing-apart s t x y l e
listing-apart s t x y l e = cc
