-- What a match of the table is for users, who get the prefix rebuilt from it, and how many nodes a lookup reads: for
-- the lookups of maps.
use Rattle.prefix_trie_map.proofs.Prelude.{◌≡◌, ℕ, ◌+◌, ◌≤◌, Bool, List, length, take, Option, Some, None, Bor, IfSome, MatchOption, sym, ap, ◌∙◌, subst, arith, option_map, take-take, IsMap, visits, visits_to_match, ReadsPath, ReadsToMatch, visits-bound, visit_laws, Contents, state}

module _ {T : Type 0} where
  -- what the table finds for a match m of a bit string
  abbrev pub Finds : List Bool → Option (List Bool × T) → Option (ℕ × Bor T) → Type 0
  Finds q m found = MatchOption found (m ≡ None) (λ f. (f.0 ≤ length q) × (m ≡ Some (take f.0 q, f.1.now)))

  -- the match by its length is the match by its bits
  pub by_bits : (q : List Bool) (m : Option (List Bool × T)) (found : Option (ℕ × Bor T)) → Finds q m found → option_map (λ f. (take f.0 q, f.1.now)) found ≡ m
  by_bits q m None none = sym none
  by_bits q m (Some f) some = sym some.1

  -- the same if the bits are those of a key that begins with the string
  pub by_key_bits : (bits q : List Bool) → take (length q) bits ≡ q → (m : Option (List Bool × T)) (found : Option (ℕ × Bor T)) → Finds q m found → option_map (λ f. (take f.0 bits, f.1.now)) found ≡ m
  by_key_bits bits q is m None none = sym none
  by_key_bits bits q is m (Some f) some = ap (λ s. Some (s, f.1.now)) (sym (take-take f.0 (length q) bits some.0) ∙ ap (take f.0) is) ∙ sym some.1

  -- the length of a match is at most that of the string
  pub found_within : (q : List Bool) (width : ℕ) → length q ≤ width → (m : Option (List Bool × T)) (found : Option (ℕ × Bor T)) → Finds q m found → IfSome found (λ f. f.0 ≤ width)
  found_within q width short m None none = tt
  found_within q width short m (Some f) some = omega (arith, short, some.0)

-- a counter that started at 0 has the number of nodes that one lookup reads
module _ {T : Type 0} (width : ℕ) (inside now : Contents T) (same : inside ≡ now) (good : IsMap width (state inside)) (asked path : List Bool) (key : asked ≡ path)
    (start count : ℕ) (none : start ≡ 0) where
  pub reads_path : count ≡ start + visits inside.nodes asked → ReadsPath now.nodes path count
  reads_path read =
      let exact : count ≡ visits inside.nodes asked = omega (arith, read, none) in
      let by_path : count ≡ visits inside.nodes path = exact ∙ ap (visits inside.nodes) key in
      subst (λ (m : Contents T). ReadsPath m.nodes path count) same
      (record { exact = by_path; bound = omega (arith, by_path, visits-bound inside.nodes path good.are_nodes.depths) })

  pub reads_to_match : count ≡ start + visits_to_match inside.entries inside.nodes asked → ReadsToMatch now.entries now.nodes path count
  reads_to_match read =
      let exact : count ≡ visits_to_match inside.entries inside.nodes asked = omega (arith, read, none) in
      let by_path : count ≡ visits_to_match inside.entries inside.nodes path = exact ∙ ap (visits_to_match inside.entries inside.nodes) key in
      subst (λ (m : Contents T). ReadsToMatch m.entries m.nodes path count) same
      (record {
        exact = by_path;
        bound = omega (arith, by_path, (visit_laws T).fewer_to_match inside.entries inside.nodes path, visits-bound inside.nodes path good.are_nodes.depths);
      })
