-- An insertion whose missing blocks are made first cannot be refused, and the two steps together are one insertion.
use Rattle.prefix_trie_bits.proofs.Prelude.{◌≡◌, ℕ, zero, suc, ◌+◌, ◌-◌, ◌*◌, ◌<◌, Bool, true, cond, ◌&&◌, ◌==◌, List, [], ◌∷◌, length, nat_lt, refl, sym, ap, ◌∙◌, subst, arith, eq-eqb, eqb-true, ltb-true, false_from_ne_true, Contains, filter, Sizes, free_of, used_of, child_block_sizes, value_block_sizes, child_block_count, value_block_count, missing_of, slots_of_missing, TakesBlocks, child_block_needed, value_block_needed, child_blocks_needed, value_blocks_needed, missing_child_blocks, missing_value_blocks, missing_node_slots, missing_cell_slots, State, Refusal, Storage, InsertsInStorage, PreparesInStorage, RefusesInStorage}
pub use Rattle.std.proofs.lemmas.Bool.{and_parts as both}

-- whether the numbers of a list increase, from s on
abbrev pub goes_up : ℕ → List ℕ → Bool
goes_up s [] = true
goes_up s (t ∷ ts) = nat_lt s t && goes_up t ts

pub above : (s : ℕ) (ts : List ℕ) → goes_up s ts ≡ true → (x : ℕ) → Contains ts x → s < x
above s [] up x (k, inside, e) = absurd (omega arith)
above s (t ∷ ts) up x (zero, inside, e) =
    let less = ltb-true s t (both (nat_lt s t) (goes_up t ts) up).0 in omega (arith, less, e)
above s (t ∷ ts) up x (suc k, inside, e) =
    let both_up = both (nat_lt s t) (goes_up t ts) up in
    let less = ltb-true s t both_up.0 in
    let more = above t ts both_up.1 x (k, omega arith, e) in omega (arith, less, more)

pub free_none : (sizes : List ℕ) (x : ℕ) → free_of sizes [] x ≡ 0
free_none [] x = refl
free_none (s ∷ sizes) x = refl

pub free_here : (s : ℕ) (sizes : List ℕ) (f : ℕ) (free : List ℕ) → free_of (s ∷ sizes) (f ∷ free) s ≡ f
free_here s sizes f free = ap (λ b. cond b f (free_of sizes free s)) (eq-eqb s s refl)

pub free_later : (s : ℕ) (sizes : List ℕ) (f : ℕ) (free : List ℕ) (x : ℕ) → s < x → free_of (s ∷ sizes) (f ∷ free) x ≡ free_of sizes free x
free_later s sizes f free x less =
    ap (λ b. cond b f (free_of sizes free x)) (false_from_ne_true (s == x) (λ h. let e = eqb-true s x h in omega (arith, less, e)))

-- if no block of any size is missing, no slots are missing
none_lack : (s : ℕ) (sizes free needed : List ℕ) → goes_up s sizes ≡ true → ((x : ℕ) → Contains sizes x → missing_of sizes free needed x ≡ 0) →
    slots_of_missing sizes free needed ≡ 0
none_lack s [] free needed up each = refl
none_lack s (t ∷ sizes) [] needed up each =
    let here : length (filter (λ n. n == t) needed) ≡ 0 = (let e = each t (0, omega arith, refl) in omega (arith, e)) in
    let rest = none_lack t sizes [] needed (both (nat_lt s t) (goes_up t sizes) up).1 (λ x there.
    (let e = each x (suc there.0, (let i = there.1 in omega arith), there.2) in let z = free_none sizes x in omega (arith, e, z))) in
    ap (λ n. t * n + slots_of_missing sizes [] needed) here ∙ omega (arith, rest)
none_lack s (t ∷ sizes) (f ∷ free) needed up each =
    let here : length (filter (λ n. n == t) needed) - f ≡ 0 = (let e = each t (0, omega arith, refl) in let z = free_here t sizes f free in omega (arith, e, z)) in
    let go = (both (nat_lt s t) (goes_up t sizes) up).1 in
    let rest = none_lack t sizes free needed go (λ x there.
    (let e = each x (suc there.0, (let i = there.1 in omega arith), there.2) in let z = free_later t sizes f free x (above t sizes go x there) in omega (arith, e, z))) in
    ap (λ n. t * n + slots_of_missing sizes free needed) here ∙ omega (arith, rest)

-- a block that was made and is not used yet is free
made_free : (sizes : List ℕ) (needed : List ℕ) (used : Sizes) (free free2 : List ℕ) (x : ℕ) →
    used_of used x + free_of sizes free2 x ≡ used_of used x + free_of sizes free x + missing_of sizes free needed x → missing_of sizes free2 needed x ≡ 0
made_free sizes needed used free free2 x made = omega (arith, made)

module _ {T : Type 0} (s : State T) (q : List Bool) (before mid : Storage) (prepared : PreparesInStorage s q before mid) where
  -- once the missing blocks are made, no block is missing
  pub no_child_block_lacks : (size : ℕ) → Contains child_block_sizes size → missing_child_blocks s.nodes mid.layout q size ≡ 0
  no_child_block_lacks size there =
      subst (λ b. missing_of child_block_sizes mid.layout.free_child_blocks (child_blocks_needed s.nodes (record mid.layout { child_blocks = b }) q) size ≡ 0) (sym prepared.child_blocks)
      (made_free child_block_sizes (child_blocks_needed s.nodes before.layout q) before.layout.child_blocks before.layout.free_child_blocks mid.layout.free_child_blocks size
      (subst (λ b. used_of b size + free_of child_block_sizes mid.layout.free_child_blocks size
      ≡ child_block_count before.layout size + missing_child_blocks s.nodes before.layout q size) prepared.child_blocks (prepared.child_blocks_made size there)))

  pub no_value_block_lacks : (size : ℕ) → Contains value_block_sizes size → missing_value_blocks s.entries mid.layout q size ≡ 0
  no_value_block_lacks size there =
      subst (λ b. missing_of value_block_sizes mid.layout.free_value_blocks (value_blocks_needed s.entries (record mid.layout { value_blocks = b }) q) size ≡ 0) (sym prepared.value_blocks)
      (made_free value_block_sizes (value_blocks_needed s.entries before.layout q) before.layout.value_blocks before.layout.free_value_blocks mid.layout.free_value_blocks size
      (subst (λ b. used_of b size + free_of value_block_sizes mid.layout.free_value_blocks size
      ≡ value_block_count before.layout size + missing_value_blocks s.entries before.layout q size) prepared.value_blocks (prepared.value_blocks_made size there)))

  -- so no slots are missing
  pub no_node_slots_lack : missing_node_slots s.nodes mid.layout q ≡ 0
  no_node_slots_lack = none_lack 0 child_block_sizes mid.layout.free_child_blocks (child_blocks_needed s.nodes mid.layout q) refl no_child_block_lacks

  pub no_cell_slots_lack : missing_cell_slots s.entries mid.layout q ≡ 0
  no_cell_slots_lack = none_lack 0 value_block_sizes mid.layout.free_value_blocks (value_blocks_needed s.entries mid.layout q) refl no_value_block_lacks

  -- so the insertion is not refused
  pub prepared_not_refused : (cause : Refusal) (after : Storage) → RefusesInStorage s q cause mid after → ⊥
  prepared_not_refused cause after refused =
      (let l = refused.some_missing in let n = no_node_slots_lack in let c = no_cell_slots_lack in omega (arith, l, n, c))

  -- making the blocks and then inserting is one insertion
  pub prepared_inserts : (after : Storage) → InsertsInStorage s q mid after → InsertsInStorage s q before after
  prepared_inserts after inserted = record {
    node_slots = (let a = prepared.node_slots in let b = inserted.node_slots in let n = no_node_slots_lack in omega (arith, a, b, n));
    cell_slots = (let a = prepared.cell_slots in let b = inserted.cell_slots in let n = no_cell_slots_lack in omega (arith, a, b, n));
    child_blocks = subst (λ b. TakesBlocks (child_block_needed s.nodes b q) b after.layout.child_blocks) prepared.child_blocks inserted.child_blocks;
    value_blocks = subst (λ b. TakesBlocks (value_block_needed s.entries b q) b after.layout.value_blocks) prepared.value_blocks inserted.value_blocks;
    child_blocks_made = λ size there.
        (let a = prepared.child_blocks_made size there in let b = inserted.child_blocks_made size there in let n = no_child_block_lacks size there in omega (arith, a, b, n));
    value_blocks_made = λ size there.
        (let a = prepared.value_blocks_made size there in let b = inserted.value_blocks_made size there in let n = no_value_block_lacks size there in omega (arith, a, b, n));
  }
