-- Proves the worked facts that are not about replies.
use Rattle.prefix_trie_facts.proofs.Prelude.{◌≡◌, ℕ, ◌+◌, ◌%◌, ◌==◌, ◌&&◌, Bool, true, false, not, cond, List, [], ◌∷◌, map, filter, length, nat_lt, nat_le, is_lt, is_some, sum_by, Option, Some, None, refl, ap, ap₂, ◌∙◌, lit<, list_any, entries, len-entries, entries-insert, find, put, digits, number, begins, listing_cmp, listing_total, Entries, with_entry, part_below, without_below, listing_after, prefix_pairs, first_item, Nodes, home, needed, nodes_without_below, child_block_sizes, value_block_sizes, packed_slots, visits_of_match, visits_to_match, WritingWalk, walk_over, State, path_at, back_at, FactsHold, at_slot, RetainsEntries}
use Rattle.prefix_trie_facts.proofs.Plain.{keys_of, Shows, Marks, needed-is, needed_marks, pruned_marks, marks_not_below, nodes_without_below-is}
use Rattle.prefix_trie_bits.proofs.Model.SortedListings.{entries-retained}
use Rattle.prefix_trie_facts.proofs.Replies.{leads}
use Rattle.prefix_trie_facts.proofs.Blocks.{differ}

-- a fact about the lists of entries and nodes holds of a state that has these lists
pub said : {A : Type 0} (f : List (List Bool × ℕ) → Marks → A) (t : State ℕ) {es : List (List Bool × ℕ)} {ns : Marks} → Shows t es ns → f (entries t.entries) (entries t.nodes) ≡ f es ns
said f t s = ap₂ f s.of_entries s.of_nodes

abbrev visits_in : List Bool → Marks → ℕ
visits_in q ns = length (filter (λ s. begins s q) (keys_of ns))

abbrev to_match_in : List Bool → List (List Bool × ℕ) → Marks → ℕ
to_match_in q es ns = elim (first_item (filter (λ e. begins e.0 q) es)) as (λ _. ℕ) [
  | None ↦ visits_in q ns
  | Some e ↦ length (filter (λ s. begins s q && nat_le (length s) (length e.0)) (keys_of ns))
]

of-match : (n : Nodes) (q : List Bool) (o : Option (List Bool × ℕ)) → visits_of_match n q o ≡ elim o as (λ _. ℕ) [
  | None ↦ visits_in q (entries n)
  | Some e ↦ length (filter (λ s. begins s q && nat_le (length s) (length e.0)) (keys_of (entries n)))
]
of-match n q None = refl
of-match n q (Some e) = refl

to_match : (m : Entries ℕ) (n : Nodes) (q : List Bool) → visits_to_match m n q ≡ to_match_in q (entries m) (entries n)
to_match m n q = of-match n q (first_item (filter (λ e. begins e.0 q) (entries m)))

abbrev pub parents_in : Marks → List (List Bool)
parents_in ns = filter (λ p. list_any (λ s. begins p s && (length s == length p + 5)) (keys_of ns)) (keys_of ns)

abbrev pub holders_in : List (List Bool × ℕ) → Marks → List (List Bool)
holders_in es ns = filter (λ p. list_any (λ s. begins p s && nat_lt (length s) (length p + 5)) (keys_of es)) (keys_of ns)

abbrev pub own_in : List Bool → List (List Bool × ℕ) → ℕ
own_in p es = length (filter (λ s. begins p s && nat_lt (length s) (length p + 5)) (keys_of es))

abbrev pub children_in : List Bool → Marks → ℕ
children_in p ns = length (filter (λ s. begins p s && (length s == length p + 5)) (keys_of ns))

abbrev node_slots_in : Marks → ℕ
node_slots_in ns = 1 + sum_by (λ p. packed_slots child_block_sizes (children_in p ns)) (keys_of ns)

abbrev cell_slots_in : List (List Bool × ℕ) → Marks → ℕ
cell_slots_in es ns = sum_by (λ p. packed_slots value_block_sizes (own_in p es)) (keys_of ns)

-- the first block of a list, moved to its end
abbrev to_end : List (ℕ × ℕ)
to_end = (5, 6) ∷ (4, 5) ∷ (3, 4) ∷ (2, 3) ∷ (1, 2) ∷ (0, 1) ∷ []

abbrev behind_in : List (List Bool × ℕ) → List (List Bool)
behind_in es = keys_of (filter (λ e. is_lt (listing_cmp (path_at 8 (5, 8)) e.0)) es)

abbrev left_marks : List Bool → List (List Bool × ℕ) → Marks → Marks
left_marks q es ns = cond (is_some (find listing_cmp (home q) ns)) (pruned_marks (marks_not_below ns q) (keys_of (filter (λ e. not (begins q e.0)) es)) q) ns

-- a test that returns true at every other call does not return true twice in a row
not_twice : RetainsEntries (λ (f : ℕ) (_ : List Bool) (_ : ℕ) b (f' : ℕ). (b ≡ (f % 2 == 0)) × (f' ≡ f + 1)) 0
    ((false ∷ [], 1) ∷ (true ∷ [], 2) ∷ []) ((false ∷ [], 1) ∷ (true ∷ [], 2) ∷ []) → ⊥
not_twice (b, f, later, asked, (c, g, last, again, ends, is), kept) =
    let second : c ≡ false = again.0 ∙ ap (λ n. n % 2 == 0) asked.1 in
    let none : later ≡ [] = is ∙ ap₂ (λ x xs. cond x ((true ∷ [], 2) ∷ xs) xs) second ends in
    let one = kept ∙ ap₂ (λ x xs. cond x ((false ∷ [], 1) ∷ xs) xs) asked.0 none in
    differ 2 1 refl (ap (λ (xs : List (List Bool × ℕ)). length xs) one)

pub facts_hold : FactsHold
unfolding digits number begins
facts_hold = record {
  visits32 = leads refl (λ t s. (
    said (λ es ns. visits_in (path_at 32 (0x01020301, 32)) ns) t s,
    to_match t.entries t.nodes (path_at 32 (0x01020301, 32)) ∙ said (λ es ns. to_match_in (path_at 32 (0x01020301, 32)) es ns) t s,
    said (λ es ns. visits_in (path_at 32 (0x01020301, 29)) ns) t s,
    said (λ es ns. visits_in (path_at 32 (0x81020301, 32)) ns) t s,
  ));
  visits128 = leads refl (λ t s. (
    said (λ es ns. visits_in (path_at 128 (1, 128)) ns) t s,
    to_match t.entries t.nodes (path_at 128 (1, 128)) ∙ said (λ es ns. to_match_in (path_at 128 (1, 128)) es ns) t s,
  ));
  visits_to_first = leads refl (λ t s. (
    said (λ es ns. visits_in (path_at 32 (0x0a010100, 24)) ns) t s,
    to_match t.entries t.nodes (path_at 32 (0x0a010100, 24)) ∙ said (λ es ns. to_match_in (path_at 32 (0x0a010100, 24)) es ns) t s,
  ));
  two_far_keys = leads refl (λ t s. (
    said (λ es ns. length (parents_in ns)) t s,
    said (λ es ns. length (holders_in es ns)) t s,
    said (λ es ns. children_in [] ns) t s,
    said (λ es ns. children_in (path_at 32 (0, 5)) ns) t s,
  ));
  kept_tree = leads refl (λ t s. (
    said (λ es ns. length (parents_in ns)) t s,
    said (λ es ns. holders_in es ns) t s,
    said (λ es ns. visits_in (path_at 32 (0, 32)) ns) t s,
  ));
  own = leads refl (λ t s. (
    said (λ es ns. own_in [] es) t s,
    said (λ es ns. own_in (path_at 8 (0, 5)) es) t s,
    said (λ es ns. length (holders_in es ns)) t s,
    said (λ es ns. children_in [] ns) t s,
  ));
  smallest = record { three = refl; eight = refl; nine = refl; twenty_five = refl; children_25 = refl; too_many = refl; none = refl; packed_nine = refl };
  cells = record {
    blocks = at_slot 0 1 ∷ at_slot 1 2 ∷ at_slot 3 4 ∷ at_slot 7 8 ∷ at_slot 15 16 ∷ at_slot 31 24 ∷ at_slot 55 31 ∷ [];
    tiles = ((0, lit< tt, refl), refl, ((1, lit< tt, refl), refl, ((2, lit< tt, refl), refl, ((3, lit< tt, refl), refl, ((4, lit< tt, refl), refl, ((5, lit< tt, refl), refl, ((6, lit< tt, refl), refl, refl)))))));
    rearranged = record { moves = to_end; below = (lit< tt, lit< tt, (lit< tt, lit< tt, (lit< tt, lit< tt, (lit< tt, lit< tt, (lit< tt, lit< tt, (lit< tt, lit< tt, tt)))))); is = refl };
  };
  nodes = record {
    blocks = at_slot 1 1 ∷ at_slot 2 2 ∷ at_slot 4 4 ∷ at_slot 8 8 ∷ at_slot 16 16 ∷ at_slot 32 24 ∷ at_slot 56 32 ∷ [];
    tiles = ((0, lit< tt, refl), refl, ((1, lit< tt, refl), refl, ((2, lit< tt, refl), refl, ((3, lit< tt, refl), refl, ((4, lit< tt, refl), refl, ((5, lit< tt, refl), refl, ((6, lit< tt, refl), refl, refl)))))));
    rearranged = record { moves = to_end; below = (lit< tt, lit< tt, (lit< tt, lit< tt, (lit< tt, lit< tt, (lit< tt, lit< tt, (lit< tt, lit< tt, (lit< tt, lit< tt, tt)))))); is = refl };
  };
  empty_array = record { blocks = []; tiles = refl; rearranged = record { moves = []; below = tt; is = refl } };
  odd_askings = (true, 1, _, (refl, refl), (false, 2, _, (refl, refl), (true, 3, _, (refl, refl), (false, 4, _, (refl, refl), (true, 5, _, (refl, refl), refl, refl), refl), refl), refl), refl);
  not_from_one_state = not_twice;
  written = leads refl (λ t s.
      let a = path_at 8 (6, 8) in
      let b = path_at 8 (8, 5) in
      let c = path_at 8 (128, 1) in
      let m1 = with_entry t.entries a 13 in
      let m2 = with_entry m1 b 14 in
      let m3 = with_entry m2 c 15 in
      let w0 : WritingWalk ℕ = walk_over t.entries t.nodes (listing_after t.entries (path_at 8 (5, 8))) in
      let w1 : WritingWalk ℕ = record { entries = m1; nodes = t.nodes; to_come = b ∷ c ∷ []; lent = Some a } in
      let w2 : WritingWalk ℕ = record { entries = m2; nodes = t.nodes; to_come = c ∷ []; lent = Some b } in
      let w3 : WritingWalk ℕ = record { entries = m3; nodes = t.nodes; to_come = []; lent = Some c } in
      let w4 : WritingWalk ℕ = record { entries = m3; nodes = t.nodes; to_come = []; lent = None } in (
        w1,
        w2,
        w3,
        w4,
        (record { entries = t.entries; nodes = t.nodes; to_come = b ∷ c ∷ []; lent = Some a }, (said (λ es ns. behind_in es) t s, refl), (a, refl, refl)),
        (record { entries = m1; nodes = t.nodes; to_come = c ∷ []; lent = Some b }, (refl, refl), (b, refl, refl)),
        (record { entries = m2; nodes = t.nodes; to_come = []; lent = Some c }, (refl, refl), (c, refl, refl)),
        (refl, refl),
        λ early h. differ 1 0 refl (ap length h.0),
        ap (map (λ e. e.1)) (entries-insert listing_total m2 c 15 ∙ ap (put listing_cmp c 15) (entries-insert listing_total m1 b 14 ∙ ap (put listing_cmp b 14) (entries-insert listing_total t.entries a 13 ∙ ap (put listing_cmp a 13) s.of_entries))),
      ));
  split_off = leads refl (λ t s.
      let q = path_at 32 (0xc0a80000, 22) in
      let m = part_below t.entries q in
      let listed = entries-retained t.entries (λ k. begins q k) ∙ ap (filter (λ e. begins q e.0)) s.of_entries in
      let left = entries-retained t.entries (λ k. not (begins q k)) ∙ ap (filter (λ e. not (begins q e.0))) s.of_entries in (
        record { entries = m; nodes = needed m },
        record { entries = without_below t.entries q; nodes = nodes_without_below t.nodes t.entries q },
        record { split_off = refl; split_nodes = refl; left = refl; left_nodes = refl },
        ap (prefix_pairs (back_at 32)) listed,
        len-entries (needed m) ∙ ap length (needed-is m ∙ ap (λ es. needed_marks (keys_of es)) listed),
        ap (own_in (path_at 32 (0xc0a80000, 20))) listed,
        ap (map (λ e. e.1)) left,
        len-entries (nodes_without_below t.nodes t.entries q) ∙ ap length (nodes_without_below-is t.nodes t.entries q) ∙ said (λ es ns. length (left_marks q es ns)) t s,
        ap node_slots_in (needed-is m ∙ ap (λ es. needed_marks (keys_of es)) listed),
        ap₂ cell_slots_in listed (needed-is m ∙ ap (λ es. needed_marks (keys_of es)) listed),
      ));
}
