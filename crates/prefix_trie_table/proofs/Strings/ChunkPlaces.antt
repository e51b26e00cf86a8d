-- The chunks of a string under a node, by the node's chunks and the place in the node.
use Rattle.prefix_trie_table.proofs.Prelude.{◌≡◌, ℕ, ◌+◌, ◌-◌, ◌*◌, ◌^◌, ◌%◌, ◌<◌, ◌≤◌, Bool, List, [], ◌∷◌, ◌++◌, length, ap, ◌∙◌, arith, w32, leading_zeros, number, digits, length-digits, number-bits, value_bit, top_length, length-short, string-bit, chunks_of, rest_of}
use Rattle.prefix_trie_table.proofs.Strings.Digits.{short_path, five_path, path-append, search_paths-append}
use Rattle.prefix_trie_table.proofs.Strings.SmallFacts.{whole_levels}
use Rattle.std.proofs.lemmas.List.{append-nil}

-- a string at a place of at most four bits has the chunks of the node
pub below_node : (k : ℕ) (s r : List Bool) → length s ≡ 5 * k → length r ≤ 4 → (chunks_of (s ++ r) ≡ chunks_of s) × (rest_of (s ++ r) ≡ r)
below_node k s r long h =
    let whole = whole_levels (length s) k long in (
      path-append s r whole ∙ ap (λ p. chunks_of s ++ p) (short_path r h).0 ∙ append-nil (chunks_of s),
      (search_paths-append s r whole).1 ∙ (short_path r h).1,
    )

-- five bits more add one chunk
pub five_below : (k : ℕ) (s r : List Bool) → length s ≡ 5 * k → length r ≡ 5 → chunks_of (s ++ r) ≡ chunks_of s ++ number r ∷ []
five_below k s r long h = path-append s r (whole_levels (length s) k long) ∙ ap (λ p. chunks_of s ++ p) (five_path r h)

-- the chunk of five bits is their number
pub step_below : (k : ℕ) (s : List Bool) (c : ℕ) → length s ≡ 5 * k → c < 32 → chunks_of (s ++ digits 5 c) ≡ chunks_of s ++ c ∷ []
step_below k s c long h = five_below k s (digits 5 c) long (length-digits 5 c) ∙ ap (λ n. chunks_of s ++ n ∷ []) (number-bits 5 c h)

-- each value bit is that of a string of at most four bits
pub string_at : (b : ℕ) → b < 31 → (r : List Bool) × (length r ≤ 4) × (value_bit r ≡ b)
string_at b small =
    let top = top_length (b + 1) (omega arith) (omega (arith, small)) in
    let n : ℕ = 31 - leading_zeros w32 (b + 1) in (
      digits n (b + 1 - 1 * 2 ^ n % 4294967296),
      (let l = length-digits n (b + 1 - 1 * 2 ^ n % 4294967296) in let s = length-short b n small top.0 top.1 in omega arith),
      string-bit b n small top.0 top.1,
    )
