-- Which places of a node two masks leave, and which string a place has: for the lookups and walks of the table.
use Rattle.prefix_trie_bits.proofs.Prelude.{◌≡◌, ℕ, Bool, true, false, cond, nat_lt, ◌&&◌, List, ◌∷◌, length, filter, refl, ap₂, ◌∙◌, bit_and, number, has, value_bit, is_in, HoldsPlaces}
use Rattle.prefix_trie_bits.proofs.Bitmaps.{has-and}

pub is_in-and : (v c vm cm : ℕ) (s : List Bool) → is_in (bit_and v vm) (bit_and c cm) s ≡ (is_in v c s && is_in vm cm s)
is_in-and v c vm cm s =
    ap₂ (λ x y. cond (nat_lt (length s) 5) x y) (has-and v vm (value_bit s)) (has-and c cm (number s)) ∙ go (nat_lt (length s) 5)
  where
    go : (t : Bool) → cond t (has v (value_bit s) && has vm (value_bit s)) (has c (number s) && has cm (number s)) ≡ (cond t (has v (value_bit s)) (has c (number s)) && cond t (has vm (value_bit s)) (has cm (number s)))
    go true = refl
    go false = refl

module _ (v c vm cm : ℕ) (test : List Bool → Bool) (holds : HoldsPlaces vm cm test) where
  step : (a b : Bool) (x : List Bool) (xs : List (List Bool)) → cond (a && b) (x ∷ xs) xs ≡ cond a (cond b (x ∷ xs) xs) xs
  step true b x xs = refl
  step false b x xs = refl

  over : (a : Bool) (x : List Bool) (xs : List (List Bool)) → filter test (cond a (x ∷ xs) xs) ≡ cond a (cond (test x) (x ∷ filter test xs) (filter test xs)) (filter test xs)
  over true x xs = refl
  over false x xs = refl
