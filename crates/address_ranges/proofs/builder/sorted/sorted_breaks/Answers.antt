-- In another order the ranges have the same addresses.
use Rattle.std.proofs.Common.{◌∙◌, ◌<◌, ap, subst, sym}
use Rattle.std.proofs.lemmas.Map.Views.{All-map-IsPermutation}
use Rattle.std.proofs.lemmas.List.Sorted.{IsPermutation-map, list_any-IsPermutation}
use Rattle.std.proofs.lemmas.Result.{IfOk-weaker}
use Rattle.address_ranges.specs.Appends.{is_inside}
use Rattle.address_ranges.specs.Builders.{AreSome, is_in_one, range_as_numbers, ranges_as_numbers}
use Rattle.address_ranges.proofs.builder.sorted.sorted_breaks.Goals as goal

pub breaks_of-requires-clause-some : goal.breaks_of-requires-clause-some
breaks_of-requires-clause-some g c =
    subst (λ rs. AreSome (ranges_as_numbers g.K.Key.bit_width g.K.Key.bits rs)) (sym c.deref.ensures.value)
    (All-map-IsPermutation (range_as_numbers g.K.Key.bit_width g.K.Key.bits) (λ r. r.0 < r.1) c.args.ranges.now.items c.sort.new.ranges.items c.sort.ensures.permutation c.requires)

pub returns-clause-has : goal.returns-clause-has
returns-clause-has g c =
    let w = g.K.Key.bit_width in
    let bits = g.K.Key.bits in
    IfOk-weaker c.breaks_of.result _ _
    (λ out h n lt. h n lt ∙ ap (λ rs. is_in_one (ranges_as_numbers w bits rs) n) c.deref.ensures.value
    ∙ sym (list_any-IsPermutation (λ r. is_inside r.0 r.1 n) (ranges_as_numbers w bits c.args.ranges.now.items) (ranges_as_numbers w bits c.sort.new.ranges.items)
    (IsPermutation-map (range_as_numbers w bits) c.args.ranges.now.items c.sort.new.ranges.items c.sort.ensures.permutation))) c.breaks_of.ensures.has
