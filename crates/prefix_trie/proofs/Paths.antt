-- The path of a prefix has the length that the prefix says, for each type of prefixes: for `path_laws`.
use Rattle.prefix_trie.proofs.Prelude.{◌≡◌, ℕ, Bool, List, ◌∙◌, arith, take_all, PrefixLaws, path_length, path_back, fits_back, PathLaws}

module _ {K P : Type 0} {w : ℕ} {IsKey : K → Type 0} {bits : K → List Bool} {key_of : List Bool → K} {repr_of : P → K} {len_of : P → ℕ} {path : P → List Bool} {IsFitting : P → Type 0} {from_parts : K → ℕ → P} {back : List Bool → P} (laws : PrefixLaws w IsKey bits key_of repr_of len_of path IsFitting from_parts back) where
  full : (p : P) → IsFitting p → len_of p ≡ w → path p ≡ bits (repr_of p)
  full p fits long =
      let parts = (laws.fits_is p).0 fits in
      laws.path_is p ∙ take_all (len_of p) (bits (repr_of p)) (omega (arith, laws.keys.bits_length (repr_of p) parts.0, long))

  pub path_laws : PathLaws w bits repr_of len_of path IsFitting back
  path_laws = record { as_long = path_length laws; full = full; back_fits = fits_back laws; of_back = path_back laws }
