-- The blocks that need groups are, in words, those that a longer key lies in.
use Rattle.std.proofs.Common.{◌≡◌, ◌∙◌, ℕ, ◌+◌, ◌-◌, ◌*◌, ◌/◌, ◌%◌, ◌≤◌, Bool, true, false, ◌&&◌, ◌||◌, List, [], ◌∷◌, length, flat_map, eqb-true, eq-eqb, refl, sym, ap, arith}
use Rattle.std.specs.Prelude.{nat_lt}
use Rattle.std.specs.FinMap.{contains_key, empty, keys}
use Rattle.std.specs.List.{list_any}
use Rattle.std.proofs.lemmas.Bool.{and_parts, le-leb, leb-true, lt-ltb, ltb-true}
use Rattle.std.proofs.lemmas.List.Folds.{list_any-append}
use Rattle.std.proofs.lemmas.Map.Views.{any-filter_same}
use Rattle.prefix_trie_bits.proofs.Model.Members.{and-join, any-beginning, has-empty, has-with_nodes, of-key, same_string-is, some-key}
use Rattle.prefix_trie_bits.specs.Model.Bits.{begins}
use Rattle.prefix_trie_bits.specs.Model.Entries.{Entries}
use Rattle.prefix_trie_bits.specs.Model.Nodes.{beginnings, has_node}
use Rattle.prefix_trie_bits.specs.Model.Order.{same_string}
use Rattle.prefix_trie_forwarding.specs.Needs.{AreNeeded, IsNeeded, blocks_above, is_block, needed_groups}

-- whether a block needs a group for a key
abbrev needs_one : ℕ → List Bool → List Bool → Bool
needs_one r p s = (is_block r p && nat_lt (length p) (length s)) && begins p s

module _ (r : ℕ) where
  any-above : (p s : List Bool) → list_any (same_string p) (blocks_above r s) ≡ needs_one r p s
  any-above p s =
      any-filter_same (same_string p) (λ q. is_block r q && nat_lt (length q) (length s)) (is_block r p && nat_lt (length p) (length s))
      (λ q e. ap (λ q. is_block r q && nat_lt (length q) (length s)) (sym (same_string-is p q e))) (beginnings s) ∙
      ap (λ b. (is_block r p && nat_lt (length p) (length s)) && b) (any-beginning p s)

  any-blocks : (p : List Bool) (ks : List (List Bool)) → list_any (same_string p) (flat_map (blocks_above r) ks) ≡ list_any (needs_one r p) ks
  any-blocks p [] = refl
  any-blocks p (k ∷ ks) = list_any-append (same_string p) (blocks_above r k) (flat_map (blocks_above r) ks) ∙ (λ i. any-above p k i || any-blocks p ks i)

  module _ {T : Type 0} (m : Entries T) where
    has-needed : (p : List Bool) → has_node (needed_groups r m) p ≡ list_any (needs_one r p) (keys m)
    has-needed p = has-with_nodes empty (flat_map (blocks_above r) (keys m)) p ∙ (λ i. any-blocks p (keys m) i || has-empty p i) ∙ or-none (list_any (needs_one r p) (keys m))
      where
        or-none : (b : Bool) → (b || false) ≡ b
        or-none true = refl
        or-none false = refl

    pub needed_are : AreNeeded r m (needed_groups r m)
    needed_are = record { needed = needs; lengths = lengths; all = all }
      where
        key_of : (p : List Bool) → has_node (needed_groups r m) p ≡ true → (s : List Bool) × (contains_key m s ≡ true) × (needs_one r p s ≡ true)
        key_of p e = some-key m (needs_one r p) (sym (has-needed p) ∙ e)

        needs : (p : List Bool) → has_node (needed_groups r m) p ≡ true → IsNeeded m p
        needs p e =
            let k = key_of p e in
            let parts = and_parts (is_block r p && nat_lt (length p) (length k.0)) (begins p k.0) k.2 in
            (k.0, k.1, parts.1, ltb-true (length p) (length k.0) (and_parts (is_block r p) (nat_lt (length p) (length k.0)) parts.0).1)

        lengths : (p : List Bool) → has_node (needed_groups r m) p ≡ true → (n : ℕ) × (length p ≡ r + 8 * n)
        lengths p e =
            let k = key_of p e in
            let parts = and_parts (is_block r p && nat_lt (length p) (length k.0)) (begins p k.0) k.2 in
            let block = and_parts _ _ (and_parts (is_block r p) (nat_lt (length p) (length k.0)) parts.0).0 in
            let least : r ≤ length p = leb-true r (length p) block.0 in
            let whole : (length p - r) % 8 ≡ 0 = eqb-true ((length p - r) % 8) 0 block.1 in
            ((length p - r) / 8, omega (arith, least, whole))

        all : (p : List Bool) (n : ℕ) → length p ≡ r + 8 * n → IsNeeded m p → has_node (needed_groups r m) p ≡ true
        all p n size needed =
            let block : is_block r p ≡ true = and-join _ _ (le-leb r (length p) (omega (arith, size))) (eq-eqb ((length p - r) % 8) 0 (omega (arith, size))) in
            has-needed p ∙ of-key m (needs_one r p) needed.0 needed.1
            (and-join _ _ (and-join _ _ block (lt-ltb (length p) (length needed.0) needed.3)) needed.2)
