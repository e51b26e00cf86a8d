-- What is selected at the node where a string ends, in three cases: from the string on, after it, or below it.
use Rattle.prefix_trie_table.proofs.Prelude.{◌≤◌, length, subst, arith, ap, ◌∙◌, sym, has, HoldsPlaces, Sets, kept}
use Rattle.prefix_trie_table.proofs.Walk.StartStacks.{own_bit, masks_after}
use Rattle.prefix_trie_table.proofs.table.walk_start.places_kept.Goals as goal

pub without_bit-requires-clause-set : goal.without_bit-requires-clause-set
without_bit-requires-clause-set g c =
    let r = c.args.rest.now in
    let short : length r ≤ 4 = omega (arith, c.requires) in
    ap (has c.from_value-values.result.0) c.value_bit-bit.ensures.value
    ∙ own_bit c.from_value-values.result.0 c.from_value-values.result.1 r short (c.from_value-values.ensures r short (sym c.value_bit-bit.ensures.value))

pub returns-in-After : goal.returns-in-After
returns-in-After g c =
    let r = c.args.rest.now in
    let short : length r ≤ 4 = omega (arith, c.requires) in
    let masks = c.from_value-values.ensures r short (sym c.value_bit-bit.ensures.value) in
    subst (λ x. HoldsPlaces c.without_bit.result c.from_value-values.result.1 (kept x r)) (sym c.in-After.is)
    (masks_after c.from_value-values.result.0 c.from_value-values.result.1 r short masks c.without_bit.result
    (subst (λ b. Sets c.without_bit.result b c.from_value-values.result.0) c.value_bit-bit.ensures.value c.without_bit.ensures.clears) (c.without_bit.ensures.small masks.small))
