-- When the test of `retain` may be called, and that the map that `retain` leaves is a map.
use Rattle.prefix_trie_map.proofs.Prelude.{Bool, List, [], ◌∷◌, refl, ap, ◌∙◌, CallableOnEachEntry, RetainsEntriesTo, RetainsInStorage, listing, State, Storage, ◌≡◌, ℕ, sym, subst, IsMap, AreWithin, AreNodes, needed, AreNodes-needed, CalledAtEntry, CalledByReference, TakesEntry}
use Rattle.prefix_trie_bits.proofs.Model.RetainCalls.{retains-from_to}
use Rattle.std.specs.Borrow.{Bor, MutBor}
use Rattle.std.specs.Fn.{Mut, always_mut}
use denote.Param.Always.{mut_next}

-- a test that may be called on everything may be called on each entry in order
pub may_ask_of_map : {F P T : Type 0} (g : Mut F (Bor P × (Bor T × Unit {0})) Bool) (back : List Bool → P) (f : F) (es : List (List Bool × T)) → always_mut g f → CallableOnEachEntry (CalledAtEntry g back) (TakesEntry g back) f es
may_ask_of_map g back f [] h = tt
may_ask_of_map g back f (e ∷ es) h = (
  λ p q is eq. (h.at ((p, (q, tt)) ∷ [])).0,
  λ b f' asked. may_ask_of_map g back f' es (mut_next g f (asked.prefix, (asked.value, tt)) b f' f' asked.called refl h),
)

-- calls through a reference that a value holds are calls of the test behind the reference
module _ {F P T S : Type 0} (g : Mut F (Bor P × (Bor T × Unit {0})) Bool) (back : List Bool → P) (of : S → MutBor F) where
  pub may_ask_by_reference : (s : S) (es : List (List Bool × T)) → CallableOnEachEntry (CalledAtEntry g back) (TakesEntry g back) (of s).now es
      → CallableOnEachEntry (λ x k v b x'. CalledByReference g back (of x) k v b (of x')) (λ x. TakesEntry g back (of x).now) s es
  may_ask_by_reference s [] may = tt
  may_ask_by_reference s (e ∷ es) may = (may.0, λ b s' asked. may_ask_by_reference s' es (may.1 b (of s').now asked.called))

  -- they keep what the test keeps, and the reference stays
  pub retains_by_reference : (s s' : S) (es kept : List (List Bool × T)) → RetainsEntriesTo (λ x k v b x'. CalledByReference g back (of x) k v b (of x')) s es kept s'
      → RetainsEntriesTo (CalledAtEntry g back) (of s).now es kept (of s').now × ((of s').ghost_name ≡ (of s).ghost_name)
  retains_by_reference s s' [] kept is = ((is.0, ap (λ x. (of x).now) is.1), ap (λ x. (of x).ghost_name) is.1)
  retains_by_reference s s' (e ∷ es) kept (b, next, later, asked, rest, is) =
      let after = retains_by_reference next s' es later rest in
      ((b, (of next).now, later, asked.called, after.0, is), after.1 ∙ asked.same_reference)

  pub step_by_reference : (x : S) (f : F) (s t : State T × Storage) → RetainsEntriesTo (CalledAtEntry g back) (of x).now (listing s.0.entries) (listing t.0.entries) f
      → RetainsInStorage (λ x k v b x'. CalledByReference g back (of x) k v b (of x')) x s t → RetainsInStorage (CalledAtEntry g back) (of x).now s t
  step_by_reference x f s t kept step = record {
    kept = retains-from_to (CalledAtEntry g back) (of x).now (listing s.0.entries) (listing t.0.entries) f kept;
    nodes = step.nodes;
    space = step.space;
    storage = step.storage;
  }

-- entries within the width and the nodes that they need are a map
pub IsMap-tidied : {T : Type 0} (width : ℕ) (s : State T) → AreWithin width s.entries → s.nodes ≡ needed s.entries → IsMap width s
IsMap-tidied width s within tidy = record {
  keys_within = within;
  are_nodes = subst (AreNodes width s.entries) (sym tidy) (AreNodes-needed width s.entries within);
}
