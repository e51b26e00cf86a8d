-- The first address of a network, as a number of the width that the slots read, and the answer of a match that a map
-- returns.
use Rattle.std.proofs.Common.{◌≡◌, ◌∙◌, ℕ, ◌+◌, ◌-◌, ◌*◌, ◌≤◌, Bool, List, ◌++◌, length, Option, None, Some, sym, ap, arith, inl, inr}
use Rattle.std.specs.Prelude.{is_some}
use Rattle.std.proofs.lemmas.Bool.{false≢true}
use Rattle.prefix_trie_bits.specs.Calls.Entries.{AreWithin}
use Rattle.prefix_trie_bits.specs.Keys.{len_back, path_length, path_within}
use Rattle.prefix_trie_bits.specs.Model.Bits.{zeros}
use Rattle.prefix_trie_bits.specs.Model.Entries.{Entries}
use Rattle.prefix_trie_bits.specs.Model.Keys.{PrefixLaws}
use Rattle.prefix_trie_bits.specs.Model.Matches.{longest_match, prefix_pair}
use Rattle.prefix_trie.specs.Laws.Lookups.{LookupLaws}
use Rattle.prefix_trie_forwarding.specs.Forwarding.{answer_of}
use Rattle.prefix_trie_forwarding.specs.declared.hop.Hop.{Hop}
use Rattle.prefix_trie_forwarding.proofs.Matches.{match_cases}
use Rattle.prefix_trie_forwarding.specs.Keys.{first_of}
use Rattle.prefix_trie_forwarding.proofs.Following.{first_filled}

-- the item in an option, or another one
abbrev item_or : {X : Type 0} → X → Option X → X
item_or d None = d
item_or d (Some x) = x

module _ {K P : Type 0} {width : ℕ} {IsKey : K → Type 0} {bits : K → List Bool} {key_of : List Bool → K} {repr_of : P → K} {len_of : P → ℕ} {path : P → List Bool} {IsFitting : P → Type 0} {from_parts : K → ℕ → P} {back : List Bool → P} (laws : PrefixLaws width IsKey bits key_of repr_of len_of path IsFitting from_parts back) where
  pub first_path : (p : P) → IsFitting p → (w : ℕ) (first : K) → width ≤ w → bits first ≡ path p ++ zeros (width - len_of p) → first_of w (bits first) ≡ first_of w (path p)
  first_path p fits w first reads is =
      ap (first_of w) is ∙ first_filled w (width - len_of p) (path p) (let long = path_length laws p fits in let within = path_within laws p fits in omega (arith, long, within, reads))

  module _ (lookups : LookupLaws P Hop) (m : Entries Hop) (q : List Bool) (within : AreWithin width m) where
    -- a match that a map returns has the length and the hop of the longest match
    shown_match : (found : P) (hop : Hop) → Some (found, hop) ≡ prefix_pair back (longest_match m q)
        → (e : List Bool × Hop) × (longest_match m q ≡ Some e) × (len_of found ≡ length e.0) × (hop.number ≡ e.1.number) × (length e.0 ≤ width)
    shown_match found hop shown = elim (match_cases lookups m q) [
      | inl none ↦ absurd (false≢true (ap is_some (sym (shown ∙ ap (prefix_pair back) none.0))))
      | inr e ↦
          let is : Some (found, hop) ≡ Some (back e.0.0, e.0.1) = shown ∙ ap (prefix_pair back) e.1 in
          let short = within e.0.0 (ap is_some e.2.matches.stored) in
          (e.0, e.1, ap (λ o. len_of (item_or {X = P × Hop} (found, hop) o).0) is ∙ len_back laws e.0.0 short, ap (λ o. (item_or {X = P × Hop} (found, hop) o).1.number) is, short)
    ]

    pub shown_short : (found : P) (hop : Hop) → Some (found, hop) ≡ prefix_pair back (longest_match m q) → len_of found ≤ width
    shown_short found hop shown = let e = shown_match found hop shown in omega (arith, e.2, e.4)

    pub shown_answer : (found : P) (hop : Hop) (n : ℕ) → Some (found, hop) ≡ prefix_pair back (longest_match m q) → n ≡ (len_of found + 1) * 8388608 + hop.number → n ≡ answer_of (longest_match m q)
    shown_answer found hop n shown is =
        let e = shown_match found hop shown in
        let value : n ≡ (length e.0.0 + 1) * 8388608 + e.0.1.number = omega (arith, is, e.2, e.3) in
        value ∙ ap answer_of (sym e.1)

    pub shown_none : None ≡ prefix_pair back (longest_match m q) → 0 ≡ answer_of (longest_match m q)
    shown_none shown = elim (match_cases lookups m q) [
      | inl none ↦ ap answer_of (sym none.0)
      | inr e ↦ absurd (false≢true (ap is_some (shown ∙ ap (prefix_pair back) e.1)))
    ]
