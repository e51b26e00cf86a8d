-- What a walk over a table gives. This project's own.
use Rattle.std.specs.Prelude.{◌≡◌, ℕ, ◌-◌, ◌≤◌, Bool, not, List, ◌∷◌, ◌++◌, take, filter}
use Rattle.prefix_trie_bits.specs.Model.Bits.{zeros, begins}

module _ {K T : Type 0} where
  -- the walk gives the first of the entries still to come: its key is the first len bits of a number, with zeros after them
  pub record GivesFilled (IsKey : K → Type 0) (bits : K → List Bool) (width : ℕ) (key : K) (len : ℕ) (value : T) (old new : List (List Bool × T)) : Type 0 where
    pub is_key : IsKey key
    pub short : len ≤ width
    pub first : old ≡ (take len (bits key), value) ∷ new
    pub filled : bits key ≡ take len (bits key) ++ zeros (width - len)

  -- the walk gives the key of the first of the entries still to come, and drops the other entries that begin with it
  pub record GivesOutermost (IsKey : K → Type 0) (bits : K → List Bool) (width : ℕ) (key : K) (len : ℕ) (old new : List (List Bool × T)) : Type 0 where
    pub is_key : IsKey key
    pub short : len ≤ width
    pub filled : bits key ≡ take len (bits key) ++ zeros (width - len)
    pub value : T
    pub later : List (List Bool × T)
    pub first : old ≡ (take len (bits key), value) ∷ later
    pub rest : new ≡ filter (λ e. not (begins (take len (bits key)) e.0)) later
