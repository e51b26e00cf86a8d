-- It is the first network of the length among the addresses that are left, if it is within the network.
use Rattle.std.proofs.Common.{◌≡◌, ◌∙◌, ℕ, ◌≤◌, ◌&&◌, Bool, List, ap, leb, length, not, subst, sym, true}
use Rattle.std.specs.Option.{MatchOption}
use Rattle.prefix_trie_bits.specs.Model.Bits.{begins, number}
use Rattle.address_ranges.specs.Breaks.{has_address, numbers}
use Rattle.address_ranges.specs.Networks.{IsFree, first_address}
use Rattle.address_ranges.specs.Walks.{HasNoneOfLength, IsBare, ReturnsFirst}
use Rattle.address_ranges.proofs.FreeNetworks.{found_first, found_free, none_after, none_within}
use Rattle.address_ranges.proofs.set.AddressSet.first_free_within.Goals as goal

pub returns-in_err-free : goal.returns-in_err-free
returns-in_err-free g c =
    let w = g.P.R.Key.bit_width in
    let path = g.P.Prefix.path in
    let first = number (g.P.R.Key.bits c.ends_of-first.result.0) in
    let is : (n : ℕ) → has_address c.of_complement_from-left.result n ≡ (not (has_address c.args.self.now n) && leb (number (g.P.R.Key.bits c.ends_of-first.result.0)) n) =
    λ n. c.of_complement_from-left.ensures.others n ∙ ap (λ ns. not (has_address ns n) && leb (number (g.P.R.Key.bits c.ends_of-first.result.0)) n) (ap (numbers g.P.R.Key.bits) c.deref.ensures.value ∙ c.self.view_is) in
    let none = subst (λ b. HasNoneOfLength w b.0 b.1) c.new.ensures c.in_err-free.ensures.steps.1.0 in
    let out = none_within w c.args.len c.args.self.now c.of_complement_from-left.result c.next.new.self.1 (path c.args.within.now) first c.requires.short c.ends_of-first.ensures.first is none in
    subst (λ o. MatchOption o ((t : List Bool) → length t ≡ c.args.len → begins (path c.args.within.now) t ≡ true → IsFree w c.args.self.now t → ⊥) (λ p. IsBare g.P.Prefix.IsFitting g.P.Prefix.back path p × (length (path p) ≡ c.args.len) × (begins (path c.args.within.now) (path p) ≡ true) × IsFree w c.args.self.now (path p)
    × ((t : List Bool) → length t ≡ c.args.len → begins (path c.args.within.now) t ≡ true → IsFree w c.args.self.now t → first_address w (path p) ≤ first_address w t))) (sym c.from_residual.ensures) out

pub returns-then-contains : goal.returns-then-contains
returns-then-contains g c =
    let w = g.P.R.Key.bit_width in
    let path = g.P.Prefix.path in
    let first = number (g.P.R.Key.bits c.ends_of-first.result.0) in
    let is : (n : ℕ) → has_address c.of_complement_from-left.result n ≡ (not (has_address c.args.self.now n) && leb (number (g.P.R.Key.bits c.ends_of-first.result.0)) n) =
    λ n. c.of_complement_from-left.ensures.others n ∙ ap (λ ns. not (has_address ns n) && leb (number (g.P.R.Key.bits c.ends_of-first.result.0)) n) (ap (numbers g.P.R.Key.bits) c.deref.ensures.value ∙ c.self.view_is) in
    let r = subst (λ b. ReturnsFirst w b.0 b.1 (path c.in_ok-free.free) c.next.new.self.1) c.new.ensures c.in_ok-free.ensures.steps.1.1 in
    let found = found_free w c.args.len c.args.self.now c.of_complement_from-left.result c.next.new.self.1 (path c.args.within.now) first c.requires.short c.ends_of-first.ensures.first is (path c.in_ok-free.free) r in
    let least = found_first w c.args.len c.args.self.now c.of_complement_from-left.result c.next.new.self.1 (path c.args.within.now) first c.requires.short c.ends_of-first.ensures.first is (path c.in_ok-free.free) r in
    (c.in_ok-free.ensures.steps.1.0, r.long, sym c.contains.ensures ∙ c.if-contains.true, found, least)

pub returns-else-contains : goal.returns-else-contains
returns-else-contains g c =
    let w = g.P.R.Key.bit_width in
    let path = g.P.Prefix.path in
    let first = number (g.P.R.Key.bits c.ends_of-first.result.0) in
    let is : (n : ℕ) → has_address c.of_complement_from-left.result n ≡ (not (has_address c.args.self.now n) && leb (number (g.P.R.Key.bits c.ends_of-first.result.0)) n) =
    λ n. c.of_complement_from-left.ensures.others n ∙ ap (λ ns. not (has_address ns n) && leb (number (g.P.R.Key.bits c.ends_of-first.result.0)) n) (ap (numbers g.P.R.Key.bits) c.deref.ensures.value ∙ c.self.view_is) in
    let r = subst (λ b. ReturnsFirst w b.0 b.1 (path c.in_ok-free.free) c.next.new.self.1) c.new.ensures c.in_ok-free.ensures.steps.1.1 in
    none_after w c.args.len c.args.self.now c.of_complement_from-left.result c.next.new.self.1 (path c.args.within.now) first c.requires.short c.ends_of-first.ensures.first is (path c.in_ok-free.free) r (sym c.contains.ensures ∙ c.if-contains.false)
