-- Inserting items in order gives the map of all of them, where the last of equal paths stays: for `from_iter`.
use Rattle.prefix_trie_bits.specs.Model.Insertion.{MissingFitsLimit}
use Rattle.prefix_trie_bits.specs.Model.Space.{Space}
use Rattle.prefix_trie_map.proofs.Prelude.{◌≡◌, ℕ, ◌+◌, ◌-◌, ◌*◌, ◌^◌, ◌<◌, ◌≤◌, Bool, List, [], ◌∷◌, ◌++◌, length, refl, sym, ap, ◌∙◌, inl, inr, arith, subst, length-append, Refusal, Memory, Entries, no_entries, put_all, with_entry, IsTidy, needed, root_alone, with_needed, MayPassLimit, Insert, Reply, StepByPath, needed_insert, tidy-no_entries, slot_laws, Contents, Puts, ManyMayPassLimit, stored_state, IsWhole}

one_more : {X : Type 0} (xs : List X) (x : X) → length (xs ++ x ∷ []) ≡ length xs + 1
one_more xs x = length-append xs (x ∷ [])

module _ {P T : Type 0} (path : P → List Bool) where
  -- inserting a list with one more item at its end sets that item last
  put_last : (xs : List (P × T)) (x : P × T) (m : Entries T) → put_all path (xs ++ x ∷ []) m ≡ with_entry (put_all path xs m) (path x.0) x.1
  put_last [] x m = refl
  put_last (y ∷ xs) x m = put_last xs x (with_entry m (path y.0) y.1)

  -- one insertion is a step of such a loop
  pub puts_one : {width : ℕ} (before after : Contents T) (prefix : P) (value : T) (reply : Reply (List Bool) T) → IsWhole width before → length (path prefix) ≤ 128
      → after.entries ≡ with_entry before.entries (path prefix) value → after.nodes ≡ with_needed before.nodes (path prefix)
      → StepByPath width (stored_state before) (Insert (path prefix) value) reply (stored_state after) → Puts path before ((prefix, value) ∷ []) after
  puts_one {width} before after prefix value reply whole short entries nodes step =
      let slots = (slot_laws (List Bool) T).inserted (λ q. q) (λ q. q) width (stored_state before) (path prefix) value reply (stored_state after) whole.is_map whole.have_blocks short step in
      record {
        entries = entries;
        tidy = λ was. nodes ∙ ap (λ n. with_needed n (path prefix)) was ∙ needed_insert before.entries (path prefix) value ∙ ap needed (sym entries);
        limit = step.space.same_limit;
        node_slots = slots.node_slots;
        cell_slots = slots.cell_slots;
      }

  -- an item that was refused with `Memory` changes nothing
  pub refused_one : {width : ℕ} (before after : Contents T) (prefix : P) (value : T) (cause : Refusal) → (after.entries ≡ before.entries) × (after.nodes ≡ before.nodes)
      → StepByPath width (stored_state before) (Insert (path prefix) value) (Reply.Refused cause) (stored_state after)
      → cause ≡ Memory → MissingFitsLimit after.entries after.nodes after.space after.layout (path prefix)
  refused_one before after prefix value cause same step memory =
      subst (λ m. MissingFitsLimit m after.nodes after.space after.layout (path prefix)) (sym same.0)
      (subst (λ n. MissingFitsLimit before.entries n after.space after.layout (path prefix)) (sym same.1) ((step.storage.2 cause refl).memory memory))

  -- the items so far and one more
  pub puts_more : (first then last : Contents T) (xs : List (P × T)) (x : P × T) → Puts path first xs then → Puts path then (x ∷ []) last → Puts path first (xs ++ x ∷ []) last
  puts_more first then last xs x before one = record {
    entries = one.entries ∙ ap (λ m. with_entry m (path x.0) x.1) before.entries ∙ sym (put_last xs x first.entries);
    tidy = λ was. one.tidy (before.tidy was);
    limit = one.limit ∙ before.limit;
    node_slots = omega (arith, one_more xs x, before.node_slots, one.node_slots);
    cell_slots = omega (arith, one_more xs x, before.cell_slots, one.cell_slots);
  }

  -- an item whose insertion may exceed the limit
  pub may_pass : (first then : Contents T) (xs : List (P × T)) (x : P × T) → Puts path first xs then → MayPassLimit then.space → ManyMayPassLimit first.space (length (xs ++ x ∷ []))
  may_pass first then xs x before (inl k) = inl (omega (arith, one_more xs x, before.limit, before.node_slots, k))
  may_pass first then xs x before (inr k) = inr (omega (arith, one_more xs x, before.limit, before.cell_slots, k))

  -- a map made from a new one is tidy
  pub tidy_of : (fresh last : Contents T) (xs : List (P × T)) → fresh.entries ≡ no_entries → fresh.nodes ≡ root_alone → Puts path fresh xs last → IsTidy last.entries last.nodes
  tidy_of fresh last xs entries nodes puts = puts.tidy (nodes ∙ tidy-no_entries T ∙ ap needed (sym entries))

-- when the items of a new map may exceed its limit
pub many_pass : (space : Space) (count : ℕ) → space ≡ record { limit = 2 ^ 32 - 1; node_slots = 1; cell_slots = 0 } → ManyMayPassLimit space count → 2 ^ 32 - 1 < 1 + 56 * count
many_pass space count new (inl k) = omega (arith, ap (λ (r : Space). r.limit) new, ap (λ (r : Space). r.node_slots) new, k)
many_pass space count new (inr k) = omega (arith, ap (λ (r : Space). r.limit) new, ap (λ (r : Space). r.cell_slots) new, k)
