-- Lists with the same items are equal, and lists with different items differ.
use Rattle.std.proofs.Common.{◌≡◌, ◌∙◌, ◌<◌, ap, arith, below_more, length, sym}
use Rattle.std.proofs.lemmas.Bool.{false_from_ne_true}
use Rattle.std.proofs.lemmas.Slice.Eq.{bytes_eq-Decides}
use Rattle.prefix_trie_bits.specs.Model.Bits.{number}
use Rattle.address_ranges.specs.Breaks.{numbers}
use Rattle.std.specs.Prelude.{bytes_eq}
use Rattle.std.specs.List.{slice_index}
use Rattle.address_ranges.proofs.Breaks.{same_items}
use Rattle.address_ranges.proofs.Keys.{as_many, number_at}
use Rattle.address_ranges.proofs.Predecessors.{eq_from_ne, ne_from_ne}
use Rattle.address_ranges.proofs.same.are_same.Goals as goal

pub returns-then-is_ne : goal.returns-then-is_ne
returns-then-is_ne g c =
    let bits = g.K.Key.bits in
    let l = numbers bits c.args.left.now in
    let r = numbers bits c.args.right.now in
    let i = c.loop-i.i in
    let in_left : c.loop-i.i < length c.args.left.now = omega arith in
    let in_right : c.loop-i.i < length c.args.right.now = omega arith in
    let a = number_at bits c.args.left.now i c.index-left-i.result in_left ∙ ap (λ k. number (bits k)) (sym c.index-left-i.is) in
    let b = number_at bits c.args.right.now i c.index-right-i.result in_right ∙ ap (λ k. number (bits k)) (sym c.index-right-i.is) in
    sym (false_from_ne_true (bytes_eq l r) (λ e.
    ne_from_ne (number (bits c.index-left-i.result)) (number (bits c.index-right-i.result)) c.order.result c.if-is_ne.ensures c.order.ensures
    (sym a ∙ ap (λ ns. slice_index ns i) ((bytes_eq-Decides l r).0 e) ∙ b)))

pub loop-i-preserved : goal.loop-i-preserved
loop-i-preserved g c =
    let bits = g.K.Key.bits in
    let i = c.loop-i.i in
    let in_left : c.loop-i.i < length c.args.left.now = omega arith in
    let in_right : c.loop-i.i < length c.args.right.now = omega arith in
    let a = number_at bits c.args.left.now i c.index-left-i.result in_left ∙ ap (λ k. number (bits k)) (sym c.index-left-i.is) in
    let b = number_at bits c.args.right.now i c.index-right-i.result in_right ∙ ap (λ k. number (bits k)) (sym c.index-right-i.is) in
    below_more _ _ c.loop-i.invariant
    (a ∙ eq_from_ne (number (bits c.index-left-i.result)) (number (bits c.index-right-i.result)) c.order.result c.if-is_ne.ensures c.order.ensures ∙ sym b)

pub returns : goal.returns
returns g c =
    let bits = g.K.Key.bits in
    let l = numbers bits c.args.left.now in
    let r = numbers bits c.args.right.now in
    let ml = as_many bits c.args.left.now in
    let mr = as_many bits c.args.right.now in
    let same : length (numbers g.K.Key.bits c.args.left.now) ≡ length (numbers g.K.Key.bits c.args.right.now) = omega (arith, ml, mr) in
    sym ((bytes_eq-Decides l r).1 (same_items l r same (λ k lt. c.loop-i.invariant k (omega (arith, lt, ml)))))
