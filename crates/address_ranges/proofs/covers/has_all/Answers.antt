-- The place of the first address and the next breakpoint decide.
use Rattle.std.proofs.Common.{◌≡◌, ◌%◌, ◌<◌, ◌≤◌, subst, true}
use Rattle.std.proofs.lemmas.Bool.{and_from, and_parts, eq-eqb, eqb-true}
use Rattle.std.specs.Bool.{MatchBool}
use Rattle.prefix_trie_bits.specs.Model.Bits.{number}
use Rattle.address_ranges.specs.Appends.{end_of}
use Rattle.address_ranges.specs.Breaks.{is_odd, numbers}
use Rattle.address_ranges.proofs.Coverings.{covers_iff}
use Rattle.address_ranges.proofs.covers.has_all.Goals as goal

pub returns-then-place-eq1 : goal.returns-then-place-eq1
returns-then-place-eq1 g c =
    let w = g.K.Key.bit_width in
    let bits = g.K.Key.bits in
    let first = number (g.K.Key.bits c.args.first) in
    let end = end_of g.K.Key.bit_width g.K.Key.bits c.args.past in
    let ends_by = c.is_within-ends_by.result in
    let iff = covers_iff w (numbers bits c.args.breaks.now) c.requires.breaks first end c.rank-place.result c.requires.some c.is_within-ends_by.ensures.line c.rank-place.ensures ends_by
    (subst (λ x. MatchBool c.is_within-ends_by.result (end ≤ x) (x < end)) c.break_at-end.ensures c.is_within-ends_by.ensures.order) in
    let odd : is_odd c.rank-place.result ≡ true = eq-eqb _ 1 c.if-place-eq1.true in
    (λ h. iff.0 (and_from (is_odd c.rank-place.result) ends_by odd h), λ all. (and_parts (is_odd c.rank-place.result) ends_by (iff.1 all)).1)

pub returns-else-place-eq1 : goal.returns-else-place-eq1
returns-else-place-eq1 g c =
    let w = g.K.Key.bit_width in
    let bits = g.K.Key.bits in
    let first = number (g.K.Key.bits c.args.first) in
    let end = end_of g.K.Key.bit_width g.K.Key.bits c.args.past in
    let ends_by = c.is_within-ends_by.result in
    let iff = covers_iff w (numbers bits c.args.breaks.now) c.requires.breaks first end c.rank-place.result c.requires.some c.is_within-ends_by.ensures.line c.rank-place.ensures ends_by
    (subst (λ x. MatchBool c.is_within-ends_by.result (end ≤ x) (x < end)) c.break_at-end.ensures c.is_within-ends_by.ensures.order) in
    (λ h. absurd (c.if-place-eq1.false (eqb-true (c.rank-place.result % 2) 1 h)), λ all. (and_parts (is_odd c.rank-place.result) ends_by (iff.1 all)).0)
