-- Inserting a list with one more item at its end sets that item last, and makes few slots: for `from_iter`.
use Rattle.std.proofs.Common.{◌≡◌, ℕ, zero, suc, take, ◌+◌, ◌-◌, ◌*◌, ◌^◌, ◌<◌, ◌≤◌, Bool, List, [], ◌∷◌, ◌++◌, length, refl, sym, ap, ◌∙◌, inl, inr, arith, subst, length-append}
use Rattle.prefix_trie.specs.Terms.{Entries, IsWhole, network_path, put_all, with_entry}
use Rattle.prefix_trie_bits.proofs.Model.NodeSets.{tidy-no_entries}
use Rattle.prefix_trie_bits.proofs.Model.Steps.{step_laws}
use Rattle.prefix_trie_bits.proofs.Model.Storage.Slots.{slot_laws}
use Rattle.prefix_trie_bits.specs.BitStrings.{length-digits}
use Rattle.prefix_trie_bits.specs.Calls.Storage.{StepByPath}
use Rattle.prefix_trie_bits.specs.Model.Bits.{digits}
use Rattle.prefix_trie_bits.specs.Model.Nodes.{needed}
use Rattle.prefix_trie_bits.specs.Model.Space.{MayPassLimit, Space}
use Rattle.prefix_trie_bits.specs.Model.Step.{Insert, RemoveKeepTree, Refused, Reply}
use Rattle.prefix_trie_bits.specs.declared.prefix.Refusal.TheVariants.{IndexRange}
use Rattle.prefix_trie_table.specs.Model.Contents.{Contents, state, stored_state}
use Rattle.prefix_trie_joint.specs.declared.prefix.IpPrefix.{IpPrefix}
use Rattle.prefix_trie_joint.specs.declared.prefix.IpPrefix.TheVariants.{V4, V6}
use Rattle.prefix_trie_joint.specs.Changes.{AreWhole, IsNew, StepOnFamily}
use Rattle.prefix_trie_joint.specs.Collected.{AreAfter, IsAfter}

module _ {P T : Type 0} (path : P → List Bool) where
  put_last : (xs : List (P × T)) (x : P × T) (m : Entries T) → put_all path (xs ++ x ∷ []) m ≡ with_entry (put_all path xs m) (path x.0) x.1
  put_last [] x m = refl
  put_last (y ∷ xs) x m = put_last xs x (with_entry m (path y.0) y.1)

  -- the items so far and one more
  pub put_more : (first then last : Entries T) (xs : List (P × T)) (x : P × T) → then ≡ put_all path xs first → last ≡ with_entry then (path x.0) x.1 → last ≡ put_all path (xs ++ x ∷ []) first
  put_more first then last xs x before one = one ∙ ap (λ m. with_entry m (path x.0) x.1) before ∙ sym (put_last xs x first)

first_few : (n k : ℕ) (xs : List Bool) → length xs ≤ k → length (take n xs) ≤ k
first_few zero k [] h = omega arith
first_few zero k (x ∷ xs) h = omega arith
first_few (suc n) k [] h = omega arith
first_few (suc n) k (x ∷ xs) h = let rest : length (take n xs) ≤ k - 1 = first_few n (k - 1) xs (omega (arith, h)) in omega (arith, rest, h)

short : (width : ℕ) (network : ℕ × ℕ) → width ≤ 128 → length (network_path width network) ≤ 128
short width network few = first_few network.1 128 (digits width network.0) (subst (λ n. n ≤ 128) (sym (length-digits width network.0)) few)

module _ {T : Type 0} where
  -- a new map
  pub new_after : (map : Contents T) → IsNew (2 ^ 32 - 1) map → IsAfter 0 map
  new_after map new = (
    ap (λ (r : Space). r.limit) new.space,
    omega (arith, ap (λ (r : Space). r.node_slots) new.space),
    omega (arith, ap (λ (r : Space). r.cell_slots) new.space),
    new.nodes ∙ tidy-no_entries T ∙ ap needed (sym new.entries),
  )

  inserts : (q p : List Bool) (v : T) → Insert q v ≡ RemoveKeepTree p → ⊥
  inserts q p v e = cc

  -- one insertion more
  one_after : (width : ℕ) (before after : Contents T) (q : List Bool) (v : T) (reply : Reply (List Bool) T) → length q ≤ 128 → IsWhole width before
      → StepByPath width (stored_state before) (Insert q v) reply (stored_state after) → (count : ℕ) → IsAfter count before → IsAfter (count + 1) after
  one_after width before after q v reply short whole step count was =
      let slots = (slot_laws (List Bool) T).inserted (λ q. q) (λ q. q) width (stored_state before) q v reply (stored_state after) whole.is_map whole.have_blocks short step in
      let keeps = (step_laws (List Bool) T).of_step (λ q. q) (λ q. q) width (state before) (Insert q v) reply (state after) step.step in
      (step.space.same_limit ∙ was.0, omega (arith, slots.node_slots, was.1), omega (arith, slots.cell_slots, was.2), keeps.stays_tidy (λ p. inserts q p v) whole.is_map was.3)

  -- no insertion in this map, but one more in the other
  still : (before after : Contents T) → after ≡ before → (count : ℕ) → IsAfter count before → IsAfter (count + 1) after
  still before after same count was = subst (IsAfter (count + 1)) (sym same) (was.0, omega (arith, was.1), omega (arith, was.2), was.3)

  -- one insertion more in one family
  pub more_after : (p : IpPrefix) (v : T) (reply : Reply (List Bool) T) (old new : Contents T × Contents T) → AreWhole old → StepOnFamily p (λ q. Insert q v) reply old new
      → (count : ℕ) → AreAfter count old → AreAfter (count + 1) new
  more_after (V4 network) v reply old new whole step count was =
      (one_after 32 old.0 new.0 _ v reply (short 32 network (omega arith)) whole.0 step.0 count was.0, still old.1 new.1 step.1 count was.1)
  more_after (V6 network) v reply old new whole step count was =
      (still old.0 new.0 step.1 count was.0, one_after 128 old.1 new.1 _ v reply (short 128 network (omega arith)) whole.1 step.0 count was.1)

  passes : (map : Contents T) → MayPassLimit map.space → (count : ℕ) → IsAfter count map → 2 ^ 32 - 1 < 1 + 56 * (count + 1)
  passes map (inl k) count was = omega (arith, was.0, was.1, k)
  passes map (inr k) count was = omega (arith, was.0, was.2, k)

  -- when an insertion may exceed the limit
  pub many_pass : (p : IpPrefix) (v : T) (old new : Contents T × Contents T) → StepOnFamily p (λ q. Insert q v) (Refused IndexRange) old new
      → (count : ℕ) → AreAfter count old → 2 ^ 32 - 1 < 1 + 56 * (count + 1)
  many_pass (V4 network) v old new step count was = passes old.0 (step.0.index_range refl) count was.0
  many_pass (V6 network) v old new step count was = passes old.1 (step.0.index_range refl) count was.1

-- the number of items with one more
pub one_more : {X : Type 0} (P : ℕ → Type 0) (xs : List X) (x : X) → P (length xs + 1) → P (length (xs ++ x ∷ []))
one_more P xs x h = subst P (sym (length-append xs (x ∷ []))) h
