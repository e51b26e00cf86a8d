-- If a needed block is missing, the insertion may be refused and leave everything as it was. It shows that a step
-- exists.
use Rattle.prefix_trie_bits.proofs.Prelude.{◌≡◌, ℕ, ◌+◌, ◌-◌, ◌*◌, ◌<◌, ◌≤◌, ◌==◌, inl, inr, Bool, true, false, cond, nat_lt, nat_le, List, [], ◌∷◌, Option, None, Some, refl, sym, ap, subst, arith, ltb-true, eqb-true, cases_eq, false_from_ne_true, none-some, same_Some, mul-le-mul_left, Contains, filter_map, cons_option, get, same_string, free_of, smallest_size, child_block_sizes, value_block_sizes, child_count, own_entries, block_needed, gains_child, child_block_needed, value_block_needed, child_blocks_needed, value_blocks_needed, missing_child_blocks, missing_value_blocks, missing_node_slots, missing_cell_slots, missing_of, slots_of_missing, home, nodes_above, State, Refusal, Memory, IndexRange, Storage, RefusesInStorage, GivesCause}
use Rattle.std.specs.Prelude.{find}
use Rattle.prefix_trie_bits.proofs.Model.Storage.Insertions.{one_list}
use Rattle.prefix_trie_bits.proofs.Model.Storage.PreparedInsertions.{goes_up, both, above, free_none, free_here, free_later}
use Rattle.prefix_trie_bits.proofs.Model.Storage.ShrunkBlocks.{later_in, first_in, in_cases}
use Rattle.prefix_trie_bits.proofs.Model.Storage.Slots.{how_many, how_many-more}

-- ---- a block that is needed has one of the sizes

found_among : (f : ℕ → Bool) (sizes : List ℕ) (x : ℕ) → find f sizes ≡ Some x → Contains sizes x
found_among f [] x e = absurd (none-some x e)
found_among f (s ∷ sizes) x e = elim (f s) as (λ b. cond b (Some s) (find f sizes) ≡ Some x → Contains (s ∷ sizes) x) [
  | true ↦ λ here. subst (Contains (s ∷ sizes)) (same_Some s x here) (first_in s sizes)
  | false ↦ λ later. later_in s sizes x (found_among f sizes x later)
] e

needed_among : (sizes : List ℕ) (block : Option ℕ) (count x : ℕ) → block_needed sizes block count ≡ Some x → Contains sizes x
needed_among sizes None count x e = found_among (λ size. nat_le (count + 1) size) sizes x e
needed_among sizes (Some size) count x e = elim (nat_lt count size) as (λ b. cond b None (smallest_size sizes (count + 1)) ≡ Some x → Contains sizes x) [
  | true ↦ λ h. absurd (none-some x h)
  | false ↦ found_among (λ s. nat_le (count + 1) s) sizes x
] e

if_needed : (sizes : List ℕ) (b : Bool) (block : Option ℕ) (count x : ℕ) → cond b (block_needed sizes block count) None ≡ Some x → Contains sizes x
if_needed sizes true block count x e = needed_among sizes block count x e
if_needed sizes false block count x e = absurd (none-some x e)

-- if each node needs a block of one of the sizes, so does each entry of the list
listed_among : (sizes : List ℕ) (needed : List Bool → Option ℕ) → ((p : List Bool) (x : ℕ) → needed p ≡ Some x → Contains sizes x) → (ps : List (List Bool)) (x : ℕ) →
    0 < how_many x (filter_map needed ps) → Contains sizes x
listed_among sizes needed each [] x some = absurd (omega (arith, some))
listed_among sizes needed each (p ∷ ps) x some = of_first (needed p) (each p x)
    (λ rest. listed_among sizes needed each ps x rest) some
  where
    of_first : (o : Option ℕ) → (o ≡ Some x → Contains sizes x) → (0 < how_many x (filter_map needed ps) → Contains sizes x) → 0 < how_many x (cons_option o (filter_map needed ps)) → Contains sizes x
    of_first None here rest h = rest h
    of_first (Some y) here rest h = elim (cases_eq y x) as (λ _. Contains sizes x) [
      | inl e ↦ here (ap Some e)
      | inr other ↦ rest (let more = how_many-more x y (filter_map needed ps) in
          let no : ◌≡◌ {A = ℕ} (cond (y == x) 1 0) 0 = ap (λ b. cond b 1 0) (false_from_ne_true (y == x) (λ same. other (eqb-true y x same))) in omega (arith, h, more, no))
    ]

-- ---- a missing block has slots

least_slots : (t h rest : ℕ) → 0 < t → 0 < h → 0 < t * h + rest
least_slots t h rest a b = let m = mul-le-mul_left t (let one : 1 ≤ h = omega (arith, b) in one) in omega (arith, m, a)

some_lack : (s : ℕ) (sizes free needed : List ℕ) → goes_up s sizes ≡ true → (x : ℕ) → Contains sizes x → 0 < missing_of sizes free needed x → 0 < slots_of_missing sizes free needed
some_lack s [] free needed up x at some = absurd (let i = at.1 in omega arith)
some_lack s (t ∷ sizes) [] needed up x at some =
    let less = ltb-true s t (both (nat_lt s t) (goes_up t sizes) up).0 in
    elim (in_cases t sizes x at) as (λ _. 0 < slots_of_missing (t ∷ sizes) [] needed) [
      | inl here ↦ least_slots t (how_many t needed) (slots_of_missing sizes [] needed) (omega (arith, less))
          (let h = subst (λ y. 0 < how_many y needed) (sym here) (let more : 0 < how_many x needed = omega (arith, some) in more) in h)
      | inr there ↦ (let rest = some_lack t sizes [] needed (both (nat_lt s t) (goes_up t sizes) up).1 x there (let z = free_none sizes x in omega (arith, some, z)) in omega (arith, rest))
    ]
some_lack s (t ∷ sizes) (f ∷ free) needed up x at some =
    let less = ltb-true s t (both (nat_lt s t) (goes_up t sizes) up).0 in
    let later = (both (nat_lt s t) (goes_up t sizes) up).1 in
    elim (in_cases t sizes x at) as (λ _. 0 < slots_of_missing (t ∷ sizes) (f ∷ free) needed) [
      | inl here ↦ least_slots t (how_many t needed - f) (slots_of_missing sizes free needed) (omega (arith, less))
          (let h = subst (λ y. 0 < missing_of (t ∷ sizes) (f ∷ free) needed y) (sym here) some in let z = free_here t sizes f free in omega (arith, h, z))
      | inr there ↦ (let z = free_later t sizes f free x (above t sizes later x there) in
          let rest = some_lack t sizes free needed later x there (omega (arith, some, z)) in omega (arith, rest))
    ]

-- ---- the refusal

module _ {T : Type 0} (s : State T × Storage) (q : List Bool) (within : s.1.space.node_slots ≤ s.1.space.limit) (cells_within : s.1.space.cell_slots ≤ s.1.space.limit) where
  some_needed : (needed free : ℕ) → 0 < needed - free → 0 < needed
  some_needed needed free h = omega (arith, h)

  nodes_lack : (size : ℕ) → 0 < missing_child_blocks s.0.nodes s.1.layout q size → 0 < missing_node_slots s.0.nodes s.1.layout q
  nodes_lack size some = some_lack 0 child_block_sizes s.1.layout.free_child_blocks (child_blocks_needed s.0.nodes s.1.layout q) refl size
      (listed_among child_block_sizes (child_block_needed s.0.nodes s.1.layout.child_blocks q)
      (λ p x e. if_needed child_block_sizes (gains_child s.0.nodes q p) (get s.1.layout.child_blocks p) (child_count s.0.nodes p) x e) (nodes_above q) size
      (some_needed (how_many size (child_blocks_needed s.0.nodes s.1.layout q)) (free_of child_block_sizes s.1.layout.free_child_blocks size) some)) some

  cells_lack : (size : ℕ) → 0 < missing_value_blocks s.0.entries s.1.layout q size → 0 < missing_cell_slots s.0.entries s.1.layout q
  cells_lack size some = some_lack 0 value_block_sizes s.1.layout.free_value_blocks (value_blocks_needed s.0.entries s.1.layout q) refl size
      (listed_among value_block_sizes (value_block_needed s.0.entries s.1.layout.value_blocks q)
      (λ p x e. if_needed value_block_sizes (same_string p (home q)) (get s.1.layout.value_blocks p) (own_entries s.0.entries p) x e) (home q ∷ []) size
      (subst (λ xs. 0 < how_many size xs) (sym (one_list (value_block_needed s.0.entries s.1.layout.value_blocks q (home q))))
      (some_needed (how_many size (value_blocks_needed s.0.entries s.1.layout q)) (free_of value_block_sizes s.1.layout.free_value_blocks size) some))) some

  some_missing : (cause : Refusal) → GivesCause s q cause → 0 < missing_node_slots s.0.nodes s.1.layout q + missing_cell_slots s.0.entries s.1.layout q
  some_missing IndexRange (inl past) = omega (arith, past, within)
  some_missing IndexRange (inr past) = omega (arith, past, cells_within)
  some_missing Memory (inl one) = (let some = nodes_lack one.0 one.1 in omega (arith, some))
  some_missing Memory (inr one) = (let some = cells_lack one.0 one.1 in omega (arith, some))

  -- given a cause, the refusal that changes nothing is a step
  pub refuses : (cause : Refusal) → GivesCause s q cause → RefusesInStorage s.0 q cause s.1 s.1
  refuses cause given = record {
    some_missing = some_missing cause given;
    range = λ is. subst (GivesCause s q) is given;
    memory = λ is. subst (GivesCause s q) is given;
    node_slots = (omega arith, omega arith);
    cell_slots = (omega arith, omega arith);
    child_blocks = refl;
    value_blocks = refl;
    child_blocks_made = λ size at. (omega arith, omega arith);
    value_blocks_made = λ size at. (omega arith, omega arith);
  }
