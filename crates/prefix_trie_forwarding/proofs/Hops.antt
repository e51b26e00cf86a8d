-- The hop and the length that an answer holds.
use Rattle.std.proofs.Common.{◌≡◌, ◌≢◌, ℕ, ◌-◌, ◌/◌, ◌%◌, ◌<◌, ◌≤◌, Bool, List, length, Option, None, Some, refl, ap, ap₂, subst, arith}
use Rattle.std.specs.Coded.{le_prop}
use Rattle.std.specs.Prelude.{MatchOption}
use Rattle.prefix_trie_forwarding.specs.Forwarding.{answer_of, hop_of, length_and_hop}
use Rattle.prefix_trie_forwarding.specs.declared.hop.Hop.{Hop}

-- hops of one number are the same
pub same_hop : (a b : Hop) → a.number ≡ b.number → a ≡ b
same_hop a b e =
    subst (λ m. (p : m < 8388608) → a ≡ record { number = m; small = p }) e
    (λ p. ap (λ (q : a.number < 8388608). record { number = a.number; small = q }) (le_prop a.small p)) b.small

pub hop_none : (found : Option (List Bool × Hop)) (n : ℕ) → n ≡ 0 → n ≡ answer_of found → None ≡ hop_of found
hop_none None n zero is = refl
hop_none (Some e) n zero is = absurd (omega (arith, zero, is))

pub match_none : (found : Option (List Bool × Hop)) (n : ℕ) → n ≡ 0 → n ≡ answer_of found → None ≡ length_and_hop found
match_none None n zero is = refl
match_none (Some e) n zero is = absurd (omega (arith, zero, is))

pub hop_some : (found : Option (List Bool × Hop)) (n : ℕ) (o : Option Hop) → n ≢ 0 → n ≡ answer_of found → MatchOption o (8388608 ≤ n % 8388608) (λ hop. hop.number ≡ n % 8388608) → o ≡ hop_of found
hop_some None n o some is new = absurd (some is)
hop_some (Some e) n None some is new = absurd (omega (arith, new))
hop_some (Some e) n (Some hop) some is new = ap Some (same_hop hop e.1 (let small = e.1.small in omega (arith, new, is, small)))

pub match_some : (found : Option (List Bool × Hop)) (n : ℕ) (hop : Hop) → n ≢ 0 → n ≡ answer_of found → hop.number ≡ n % 8388608 → Some (n / 8388608 - 1, hop) ≡ length_and_hop found
match_some None n hop some is new = absurd (some is)
match_some (Some e) n hop some is new =
    let small = e.1.small in
    ap Some (ap₂ (λ l h. (l, h)) (let l : n / 8388608 - 1 ≡ length e.0 = omega (arith, is, small) in l) (same_hop hop e.1 (omega (arith, new, is, small))))

pub answer_least : (found : Option (List Bool × Hop)) (n : ℕ) → n ≢ 0 → n ≡ answer_of found → 1 ≤ n / 8388608
answer_least None n some is = absurd (some is)
answer_least (Some e) n some is = omega (arith, is)
