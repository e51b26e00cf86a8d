-- A closure that calls a test is called on an entry exactly as the test is: for `retain` of sets.
use Rattle.prefix_trie.proofs.Prelude.{Bool, List, [], ◌∷◌, ap, RetainsEntries, RetainsEntriesTo, CallableOnEachEntry, State, Storage, RetainsInStorage}

-- `test_of` is the test that the closure holds; each call of the closure is one call of that test
module _ {F G T : Type 0} (may_return : F → List Bool → T → Bool → F → Type 0) (may_return' : G → List Bool → T → Bool → G → Type 0) (test_of : G → F)
    (calls : (g : G) (k : List Bool) (v : T) (b : Bool) (g' : G) → may_return' g k v b g' → may_return (test_of g) k v b (test_of g')) where
  -- the closure may be called if its test may be
  pub may_ask_closure : (accepts : F → List Bool → T → Type 0) (accepts' : G → List Bool → T → Type 0) → ((g : G) (k : List Bool) (v : T) → accepts (test_of g) k v → accepts' g k v)
      → (g : G) (es : List (List Bool × T)) → CallableOnEachEntry may_return accepts (test_of g) es → CallableOnEachEntry may_return' accepts' g es
  may_ask_closure accepts accepts' takes g [] may = tt
  may_ask_closure accepts accepts' takes g (e ∷ es) may =
      (takes g e.0 e.1 may.0, λ b g' asked. may_ask_closure accepts accepts' takes g' es (may.1 b (test_of g') (calls g e.0 e.1 b g' asked)))

  in_order : (g : G) (es kept : List (List Bool × T)) → RetainsEntries may_return' g es kept → RetainsEntries may_return (test_of g) es kept
  in_order g [] kept is = is
  in_order g (e ∷ es) kept (b, g', later, asked, rest, is) = (b, test_of g', later, calls g e.0 e.1 b g' asked, in_order g' es later rest, is)

  -- the closure leaves the test as the test's own calls leave it
  pub in_order_to : (g : G) (es kept : List (List Bool × T)) (g' : G) → RetainsEntriesTo may_return' g es kept g' → RetainsEntriesTo may_return (test_of g) es kept (test_of g')
  in_order_to g [] kept g' is = (is.0, ap test_of is.1)
  in_order_to g (e ∷ es) kept g' (b, next, later, asked, rest, is) = (b, test_of next, later, calls g e.0 e.1 b next asked, in_order_to next es later g' rest, is)

  -- `retain` keeps by the closure what it keeps by the test
  pub retains_by_test : (g : G) (s t : State T × Storage) → RetainsInStorage may_return' g s t → RetainsInStorage may_return (test_of g) s t
  retains_by_test g s t r = record { kept = in_order g _ _ r.kept; nodes = r.nodes; space = r.space; storage = r.storage }
