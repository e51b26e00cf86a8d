-- Keys that are no longer than an address: the others begin no address.
use Rattle.std.proofs.Common.{◌≡◌, ◌∙◌, ◌≤◌, ℕ, Bool, true, false, true≢false, cond, ◌||◌, List, [], ◌∷◌, length, All, filter, leb, refl, sym, ap, arith}
use Rattle.std.proofs.lemmas.Bool.{le-leb, leb-true}
use Rattle.std.proofs.lemmas.List.{length-map}
use Rattle.std.proofs.lemmas.List.Elements.{All-cons, All-nil}
use Rattle.std.specs.FinMap.{entries, keys, len, len-entries}
use Rattle.std.specs.Option.{is_some}
use Rattle.prefix_trie.specs.Terms.{begins, shortest_match, Entries}
use Rattle.prefix_trie_bits.specs.Begins.{begins-length}
use Rattle.prefix_trie_bits.specs.Laws.Matches.{MatchLaws}
use Rattle.address_ranges.specs.Networks.{is_covered_by, IsShortest}

abbrev short : ℕ → List (List Bool) → List (List Bool)
short w ss = filter (λ s. leb (length s) w) ss

few_short : (w : ℕ) (ss : List (List Bool)) → length (short w ss) ≤ length ss
few_short w [] = omega arith
few_short w (s ∷ ss) = let few = few_short w ss in elim (leb (length s) w) as (λ b. length (cond b (s ∷ short w ss) (short w ss)) ≤ length (s ∷ ss)) [ true ↦ omega (arith, few) | false ↦ omega (arith, few) ]

are_short : (w : ℕ) (ss : List (List Bool)) → All (λ s. length s ≤ w) (short w ss)
are_short w [] = All-nil (λ s. length s ≤ w)
are_short w (s ∷ ss) = elim (leb (length s) w) as (λ b. leb (length s) w ≡ b → All (λ s. length s ≤ w) (cond b (s ∷ short w ss) (short w ss))) [
  | true ↦ λ e. All-cons (λ s. length s ≤ w) s (short w ss) (leb-true (length s) w e) (are_short w ss)
  | false ↦ λ _. are_short w ss
] refl

-- longer ones begin no address
too_long : (w : ℕ) (s q : List Bool) → length q ≡ w → leb (length s) w ≡ false → begins s q ≡ false
too_long w s q long e = elim (begins s q) as (λ b. begins s q ≡ b → b ≡ false) [
  | true ↦ λ h. absurd (true≢false (sym (le-leb (length s) w (let l = begins-length s q h in omega (arith, l, long))) ∙ e))
  | false ↦ λ _. refl
] refl

short_cover : (w : ℕ) (ss : List (List Bool)) (q : List Bool) → length q ≡ w → is_covered_by (short w ss) q ≡ is_covered_by ss q
short_cover w [] q long = refl
short_cover w (s ∷ ss) q long = elim (leb (length s) w) as (λ b. leb (length s) w ≡ b → is_covered_by (cond b (s ∷ short w ss) (short w ss)) q ≡ is_covered_by (s ∷ ss) q) [
  | true ↦ λ _. ap (λ b. begins s q || b) (short_cover w ss q long)
  | false ↦ λ e. short_cover w ss q long ∙ sym (ap (λ b. b || is_covered_by ss q) (too_long w s q long e))
] refl

-- if no list of networks is shorter, no map that covers the same addresses has fewer keys
pub no_fewer : {T : Type 0} → MatchLaws T → (w : ℕ) (ss : List (List Bool)) → IsShortest w ss → (n : Entries T)
    → ((q : List Bool) → length q ≡ w → is_some (shortest_match n q) ≡ is_covered_by ss q) → length ss ≤ len n
no_fewer laws w ss shortest n same =
    let l = shortest (short w (keys n)) (are_short w (keys n)) (λ q long. short_cover w (keys n) q long ∙ sym (laws.some_shortest n q) ∙ same q long) in
    let few = few_short w (keys n) in
    let k = length-map (entries n) (λ e. e.0) in
    let e = len-entries n in
    omega (arith, l, few, k, e)
