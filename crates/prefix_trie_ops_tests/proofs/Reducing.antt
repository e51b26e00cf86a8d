-- In a set in which no shorter key covers a key, no key begins another one.
use Rattle.std.proofs.Common.{◌≡◌, ◌∙◌, Bool, true, false, true≢false, List, length, ltb-true, nat_lt, sym, refl}
use Rattle.std.specs.FinMap.{contains_key}
use Rattle.prefix_trie.specs.Terms.{Entries, begins}
use Rattle.prefix_trie_ops.specs.Covered.{is_below_another}
use Rattle.prefix_trie_ops.specs.Laws.{AggregationLaws}
use Rattle.prefix_trie_ops.proofs.Covers.{no_shorter}

pub none_begins : {T' : Type 0} → AggregationLaws T' → (m : Entries T') → ((s : List Bool) → contains_key m s ≡ true → is_below_another m s ≡ false)
    → (s t : List Bool) → contains_key m s ≡ true → contains_key m t ≡ true → begins s t ≡ true → s ≡ t
none_begins laws m uncovered s t at_s at_t h = elim (nat_lt (length s) (length t)) as (λ b. nat_lt (length s) (length t) ≡ b → s ≡ t) [
  | true ↦ λ e.
      let below = (laws.below_another m t).1 (s, record { stored = at_s; begins_it = h; shorter = ltb-true (length s) (length t) e }) in
      absurd (true≢false (sym below ∙ uncovered t at_t))
  | false ↦ λ e. no_shorter s t h e
] refl
