-- How the items of an array are inserted: after the first items, the rest decides how the call ends.
use Rattle.std.proofs.Common.{◌≡◌, ℕ, ◌+◌, List, [], ◌∷◌, Bool, map, drop, refl, sym, subst, inl, inr, arith}
use Rattle.prefix_trie_table.specs.Model.Contents.{Contents}
use Rattle.prefix_trie_c.specs.Calls.{InsertsItem, InsertsEach}
use Rattle.prefix_trie_c.specs.declared.codes.TheConstants.{DONE}

module _ {E P : Type 0} (width : ℕ) (len_of : P → ℕ) (path : P → List Bool) (item : E → P × ℕ) (all : List E) (old : Contents ℕ) where
  -- the first i items are inserted: how the rest is inserted says how all are
  abbrev pub Begins : ℕ → Contents ℕ → Type 0
  Begins i reached = (new : Contents ℕ) (code n : ℕ) → InsertsEach width len_of path (map item (drop i all)) reached new code n → InsertsEach width len_of path (map item all) old new code (i + n)

  module _ (i : ℕ) (reached : Contents ℕ) (b : Begins i reached) (e : E) (next : drop i all ≡ e ∷ drop (i + 1) all) where
    pub begins_more : (new : Contents ℕ) → InsertsItem width len_of path (item e) reached new DONE → Begins (i + 1) new
    begins_more new done last code n rest =
        let more = b last code (1 + n) (subst (λ es. InsertsEach width len_of path (map item es) reached last code (1 + n)) (sym next) (inr (new, done, n, rest, refl))) in
        let same : i + (1 + n) ≡ i + 1 + n = omega arith in
        subst (InsertsEach width len_of path (map item all) old last code) same more

    pub begins_fail : (new : Contents ℕ) (code : ℕ) → (code ≡ DONE → ⊥) → InsertsItem width len_of path (item e) reached new code → InsertsEach width len_of path (map item all) old new code i
    begins_fail new code fails is =
        let more = b new code 0 (subst (λ es. InsertsEach width len_of path (map item es) reached new code 0) (sym next) (inl (fails, is, refl))) in
        let same : i + 0 ≡ i = omega arith in
        subst (InsertsEach width len_of path (map item all) old new code) same more

  pub begins_all : (i : ℕ) (reached : Contents ℕ) → Begins i reached → drop i all ≡ [] → InsertsEach width len_of path (map item all) old reached DONE i
  begins_all i reached b none =
      let more = b reached DONE 0 (subst (λ es. InsertsEach width len_of path (map item es) reached reached DONE 0) (sym none) (refl, refl, refl)) in
      let same : i + 0 ≡ i = omega arith in
      subst (InsertsEach width len_of path (map item all) old reached DONE) same more
