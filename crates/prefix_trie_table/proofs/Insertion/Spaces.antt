-- By how much an insertion lengthens the arrays.
use Rattle.prefix_trie_table.proofs.Prelude.{◌≡◌, ℕ, ◌+◌, ◌-◌, ◌/◌, ◌≤◌, List, Option, None, Result, Ok, Err, refl, sym, ap, ◌∙◌, subst, arith, lit≤, child_block_sizes, value_block_sizes, block_needed, slots_of_missing, slots_most, total_most, needed_most, node_sizes, cell_sizes, HasSizes, Store, Turnover, Obtains, MakesNone, SameSpace, KeepsMade, tier_sizes, free_counts, needs, missing_in, missing_slots, Grows}
use Rattle.prefix_trie_table.proofs.Blocks.BySize.{sizes_up, slots_of-le}
use Rattle.prefix_trie_table.proofs.Blocks.Preparations.{missing_slots-are}
use Rattle.prefix_trie_table.proofs.Blocks.Turnovers.{made_turned, made_kept, made_same, made_then}

module _ {S : Type 0} where
  -- the same slots and the same tiers are no growth
  pub Grows-none : (v w : Store S) (most : ℕ) → SameSpace v w → w.tiers ≡ v.tiers → Grows v w most
  Grows-none v w most space tiers = record {
    first_is = space.1;
    limit_is = space.2;
    longer = (let e = space.0 in omega arith);
    at_most = (let e = space.0 in omega arith);
    within = λ h. (let e = space.0 in let l = space.2 in omega (arith, e, l, h));
    made = made_same v w tiers;
  }

  -- nor is the same array
  pub Grows-same : (v w : Store S) (most : ℕ) → w ≡ v → Grows v w most
  Grows-same v w most e = subst (λ x. Grows v x most) (sym e) (record { first_is = refl; limit_is = refl; longer = omega arith; at_most = omega arith; within = λ h. h; made = λ size. omega arith })

  -- nothing grows after
  pub Grows-then : (v w x : Store S) (most : ℕ) → Grows v w most → MakesNone w x → Grows v x most
  Grows-then v w x most g none = record {
    first_is = none.space.1 ∙ g.first_is;
    limit_is = none.space.2 ∙ g.limit_is;
    longer = (let e = none.space.0 in let a = g.longer in omega arith);
    at_most = (let e = none.space.0 in let a = g.at_most in omega arith);
    within = λ h. (let e = none.space.0 in let l = none.space.2 in let a = g.within h in omega (arith, e, l, a));
    made = made_then v w x g.made (made_kept w x none.made);
  }

  -- nor does anything grow before
  pub Grows-after : (v w x : Store S) (most : ℕ) → SameSpace v w → KeepsMade v w → Grows w x most → Grows v x most
  Grows-after v w x most space made g = record {
    first_is = g.first_is ∙ space.1;
    limit_is = g.limit_is ∙ space.2;
    longer = (let e = space.0 in let a = g.longer in omega arith);
    at_most = (let e = space.0 in let a = g.at_most in omega arith);
    within = λ h. g.within (let e = space.0 in let l = space.2 in omega (arith, e, l, h));
    made = made_then v w x made g.made;
  }

  -- twice no block
  pub none_then : (v w x : Store S) → MakesNone v w → MakesNone w x → MakesNone v x
  none_then v w x a b = record { space = (b.space.0 ∙ a.space.0, b.space.1 ∙ a.space.1, b.space.2 ∙ a.space.2); made = λ size. b.made size ∙ a.made size }

  turned : (v w : Store S) (needed : List ℕ) (most : ℕ) → HasSizes v.tiers → missing_slots v needed ≤ most → (m : ℕ → ℕ) → ((size : ℕ) → m size ≤ missing_in v needed size) → Turnover v w m None None → Grows v w most
  turned v w needed most has bound m few t =
      let less = slots_of-le (tier_sizes v.tiers) m (missing_in v needed) few in
      let slots = missing_slots-are v needed (sizes_up v.tiers has) in
      let long = t.longer in
      record {
        first_is = t.keeps.first_is;
        limit_is = t.keeps.limit_is;
        longer = t.keeps.longer;
        at_most = omega (arith, less, slots, long, bound);
        within = t.keeps.within;
        made = made_turned v w m None None t;
      }

  -- what a call leaves that made blocks, all or not
  pub Grows-obtained : {X E : Type 0} (L M : E → Type 0) (r : Result X E) (v w : Store S) (needed : List ℕ) (most : ℕ) → HasSizes v.tiers → Obtains L M r v w needed → missing_slots v needed ≤ most → Grows v w most
  Grows-obtained L M (Ok x) v w needed most has o bound = turned v w needed most has bound (missing_in v needed) (λ size. omega arith) o.made
  Grows-obtained L M (Err e) v w needed most has o bound = turned v w needed most has bound o.made.0 o.made.1 o.made.2

-- at most so many slots are missing for an insertion: for nodes one block of 32 and 24 of one, for
-- values one of 31
pub missing_nodes : {S : Type 0} (v : Store S) (o : Option ℕ) (count lists : ℕ) → tier_sizes v.tiers ≡ node_sizes → lists ≤ 24 →
    missing_slots v (needs (block_needed child_block_sizes o count) lists) ≤ 56
missing_nodes v o count lists e few =
    let a = slots_most child_block_sizes (free_counts v.tiers) refl (needs (block_needed child_block_sizes o count) lists) in
    let b = total_most 32 (block_needed child_block_sizes o count) lists (needed_most 32 (lit≤ tt) o count) in
    let same : missing_slots v (needs (block_needed child_block_sizes o count) lists) ≡ slots_of_missing child_block_sizes (free_counts v.tiers) (needs (block_needed child_block_sizes o count) lists) =
    ap (λ ns. slots_of_missing ns (free_counts v.tiers) (needs (block_needed child_block_sizes o count) lists)) e in
    omega (arith, a, b, same, few)

-- the same for values
pub missing_cells : {S : Type 0} (v : Store S) (o : Option ℕ) (count : ℕ) → tier_sizes v.tiers ≡ cell_sizes → missing_slots v (needs (block_needed value_block_sizes o count) 0) ≤ 31
missing_cells v o count e =
    let a = slots_most value_block_sizes (free_counts v.tiers) refl (needs (block_needed value_block_sizes o count) 0) in
    let b = total_most 31 (block_needed value_block_sizes o count) 0 (needed_most 31 (lit≤ tt) o count) in
    let same : missing_slots v (needs (block_needed value_block_sizes o count) 0) ≡ slots_of_missing value_block_sizes (free_counts v.tiers) (needs (block_needed value_block_sizes o count) 0) =
    ap (λ ns. slots_of_missing ns (free_counts v.tiers) (needs (block_needed value_block_sizes o count) 0)) e in
    omega (arith, a, b, same)

-- a key has 25 steps at most, so 24 nodes at most are below a new child of the root
pub few_steps : (len level : ℕ) → len ≤ 128 → len / 5 - (level + 1) ≤ 24
few_steps len level h = omega (arith, h)
