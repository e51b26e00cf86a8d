-- Calls of a test on the entries of one family and then on those of the other are its calls on all: for `retain`.
use Rattle.std.proofs.Common.{◌≡◌, Bool, true, false, cond, List, [], ◌∷◌, ◌++◌, refl, sym, ap, ◌∙◌, subst}
use Rattle.prefix_trie.specs.Terms.{Entries, listing}
use Rattle.prefix_trie_bits.specs.Calls.Retaining.{CallableOnEachEntry, RetainsEntriesTo}
use Rattle.prefix_trie_joint.specs.Joined.{joined, under}
use Rattle.prefix_trie_joint.proofs.Joined.{listing_joined}

module _ {F T : Type 0} (may_return : F → List Bool → T → Bool → F → Type 0) where
  kept_then : (b : Bool) (e : List Bool × T) (later more : List (List Bool × T)) → cond b (e ∷ later) later ++ more ≡ cond b (e ∷ (later ++ more)) (later ++ more)
  kept_then true e later more = refl
  kept_then false e later more = refl

  -- first on some entries, and then on others
  retains_both : (f g h : F) (es kept others more : List (List Bool × T)) → RetainsEntriesTo may_return f es kept g → RetainsEntriesTo may_return g others more h
      → RetainsEntriesTo may_return f (es ++ others) (kept ++ more) h
  retains_both f g h [] kept others more first second =
      subst (λ ks. RetainsEntriesTo may_return f others (ks ++ more) h) (sym first.0) (subst (λ x. RetainsEntriesTo may_return x others more h) first.1 second)
  retains_both f g h (e ∷ es) kept others more (b, next, later, called, rest, is) second =
      (b, next, later ++ more, called, retains_both next g h es later others more rest second, ap (λ ks. ks ++ more) is ∙ kept_then b e later more)

  -- on both families
  pub retains_joined : (f g h : F) (a b a' b' : Entries T) → RetainsEntriesTo may_return f (under false (listing a)) (under false (listing a')) g
      → RetainsEntriesTo may_return g (under true (listing b)) (under true (listing b')) h → RetainsEntriesTo may_return f (listing (joined a b)) (listing (joined a' b')) h
  retains_joined f g h a b a' b' ipv4 ipv6 =
      subst (λ es. RetainsEntriesTo may_return f es (listing (joined a' b')) h) (sym (listing_joined a b))
      (subst (λ ks. RetainsEntriesTo may_return f (under false (listing a) ++ under true (listing b)) ks h) (sym (listing_joined a' b'))
      (retains_both f g h (under false (listing a)) (under false (listing a')) (under true (listing b)) (under true (listing b')) ipv4 ipv6))

  module _ (accepts : F → List Bool → T → Type 0) where
    callable_first : (f : F) (es others : List (List Bool × T)) → CallableOnEachEntry may_return accepts f (es ++ others) → CallableOnEachEntry may_return accepts f es
    callable_first f [] others may = tt
    callable_first f (e ∷ es) others may = (may.0, λ b g called. callable_first g es others (may.1 b g called))

    callable_then : (f g : F) (es kept others : List (List Bool × T)) → RetainsEntriesTo may_return f es kept g → CallableOnEachEntry may_return accepts f (es ++ others)
        → CallableOnEachEntry may_return accepts g others
    callable_then f g [] kept others first may = subst (λ x. CallableOnEachEntry may_return accepts x others) (sym first.1) may
    callable_then f g (e ∷ es) kept others (b, next, later, called, rest, is) may = callable_then next g es later others rest (may.1 b next called)

    -- a test that may be called on all entries may be called on the IPv4 ones, and then on the IPv6 ones
    pub callable_ipv4 : (f : F) (a b : Entries T) → CallableOnEachEntry may_return accepts f (listing (joined a b)) → CallableOnEachEntry may_return accepts f (under false (listing a))
    callable_ipv4 f a b may = callable_first f (under false (listing a)) (under true (listing b)) (subst (CallableOnEachEntry may_return accepts f) (listing_joined a b) may)

    pub callable_ipv6 : (f g : F) (a b a' : Entries T) → CallableOnEachEntry may_return accepts f (listing (joined a b))
        → RetainsEntriesTo may_return f (under false (listing a)) (under false (listing a')) g → CallableOnEachEntry may_return accepts g (under true (listing b))
    callable_ipv6 f g a b a' may first =
        callable_then f g (under false (listing a)) (under false (listing a')) (under true (listing b)) first (subst (CallableOnEachEntry may_return accepts f) (listing_joined a b) may)

-- `test_of` is the test that a closure calls with the networks of one family
module _ {F G T : Type 0} (family : Bool) (may_return : F → List Bool → T → Bool → F → Type 0) (may_return' : G → List Bool → T → Bool → G → Type 0) (test_of : G → F)
    (calls : (g : G) (k : List Bool) (v : T) (b : Bool) (g' : G) → may_return' g k v b g' → may_return (test_of g) (family ∷ k) v b (test_of g')) where
  -- the closure may be called if the test may be
  pub callable_of_family : (accepts : F → List Bool → T → Type 0) (accepts' : G → List Bool → T → Type 0) → ((g : G) (k : List Bool) (v : T) → accepts (test_of g) (family ∷ k) v → accepts' g k v)
      → (g : G) (es : List (List Bool × T)) → CallableOnEachEntry may_return accepts (test_of g) (under family es) → CallableOnEachEntry may_return' accepts' g es
  callable_of_family accepts accepts' takes g [] may = tt
  callable_of_family accepts accepts' takes g (e ∷ es) may =
      (takes g e.0 e.1 may.0, λ b g' asked. callable_of_family accepts accepts' takes g' es (may.1 b (test_of g') (calls g e.0 e.1 b g' asked)))

  kept_under : (b : Bool) (e : List Bool × T) (later : List (List Bool × T)) → under family (cond b (e ∷ later) later) ≡ cond b ((family ∷ e.0, e.1) ∷ under family later) (under family later)
  kept_under true e later = refl
  kept_under false e later = refl

  -- what the closure keeps of the family, the test keeps of all entries
  pub retains_of_family : (g : G) (es kept : List (List Bool × T)) (g' : G) → RetainsEntriesTo may_return' g es kept g'
      → RetainsEntriesTo may_return (test_of g) (under family es) (under family kept) (test_of g')
  retains_of_family g [] kept g' is = (ap (under family) is.0, ap test_of is.1)
  retains_of_family g (e ∷ es) kept g' (b, next, later, asked, rest, is) =
      (b, test_of next, under family later, calls g e.0 e.1 b next asked, retains_of_family next es later g' rest, ap (under family) is ∙ kept_under b e later)
