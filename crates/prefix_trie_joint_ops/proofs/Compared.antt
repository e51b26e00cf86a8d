-- Two joint sets are compared family by family.
use Rattle.std.proofs.Common.{◌≡◌, ◌↔◌, ◌∙◌, ◌⊎◌, inl, inr, Bool, true, false, true≢false, cond, List, [], ◌∷◌, is_some, sym, ap}
use Rattle.std.specs.FinMap.{contains_key}
use Rattle.prefix_trie.specs.Terms.{Entries}
use Rattle.prefix_trie_joint.specs.Joined.{joined}
use Rattle.prefix_trie_joint.proofs.Joined.{get_ipv4, get_ipv6, get_neither}

module _ {T : Type 0} where
  has_of : (f : Bool) (a b : Entries T) (s : List Bool) → contains_key (joined a b) (f ∷ s) ≡ contains_key (cond f b a) s
  has_of false a b s = ap is_some (get_ipv4 a b s)
  has_of true a b s = ap is_some (get_ipv6 a b s)

  has_neither : (a b : Entries T) → contains_key (joined a b) [] ≡ false
  has_neither a b = ap is_some (get_neither a b)

  -- each key of the first set is a key of the second (x is true), or none is (x is false)
  abbrev pub KeysAre : Bool → Entries T → Entries T → Type 0
  KeysAre x m n = (s : List Bool) → contains_key m s ≡ true → contains_key n s ≡ x

  -- some key of the first set is a key of the second
  abbrev pub HaveCommonKey : Entries T → Entries T → Type 0
  HaveCommonKey m n = (s : List Bool) × (contains_key m s ≡ true) × (contains_key n s ≡ true)

  module _ (a b c d : Entries T) where
    each_joined : (x : Bool) → KeysAre x a c → KeysAre x b d → KeysAre x (joined a b) (joined c d)
    each_joined x f g [] here = absurd (true≢false (sym here ∙ has_neither a b))
    each_joined x f g (false ∷ s) here = has_of false c d s ∙ f s (sym (has_of false a b s) ∙ here)
    each_joined x f g (true ∷ s) here = has_of true c d s ∙ g s (sym (has_of true a b s) ∙ here)

    each_of : (f x : Bool) → KeysAre x (joined a b) (joined c d) → KeysAre x (cond f b a) (cond f d c)
    each_of f x all s here = sym (has_of f c d s) ∙ all (f ∷ s) (has_of f a b s ∙ here)

    -- the result of a comparison if the IPv4 keys are as they should be, and if not
    pub each_then : (x : Bool) {ipv4 ipv6 : Bool} → (ipv4 ≡ true ↔ KeysAre x a c) → ipv4 ≡ true → (ipv6 ≡ true ↔ KeysAre x b d) → ipv6 ≡ true ↔ KeysAre x (joined a b) (joined c d)
    each_then x first here second = (λ there. each_joined x (first.0 here) (second.0 there), λ all. second.1 (each_of true x all))

    pub each_else : (x : Bool) {ipv4 : Bool} → (ipv4 ≡ true ↔ KeysAre x a c) → ipv4 ≡ false → ipv4 ≡ true ↔ KeysAre x (joined a b) (joined c d)
    each_else x first other = (λ here. absurd (true≢false (sym here ∙ other)), λ all. first.1 (each_of false x all))

    pub common_in : (f : Bool) → HaveCommonKey (cond f b a) (cond f d c) → HaveCommonKey (joined a b) (joined c d)
    common_in f k = (f ∷ k.0, has_of f a b k.0 ∙ k.1, has_of f c d k.0 ∙ k.2)

    pub common_of : HaveCommonKey (joined a b) (joined c d) → HaveCommonKey a c ⊎ HaveCommonKey b d
    common_of k = at k.0 k.1 k.2
      where
        at : (s : List Bool) → contains_key (joined a b) s ≡ true → contains_key (joined c d) s ≡ true → HaveCommonKey a c ⊎ HaveCommonKey b d
        at [] l r = absurd (true≢false (sym l ∙ has_neither a b))
        at (false ∷ s) l r = inl (s, sym (has_of false a b s) ∙ l, sym (has_of false c d s) ∙ r)
        at (true ∷ s) l r = inr (s, sym (has_of true a b s) ∙ l, sym (has_of true c d s) ∙ r)
