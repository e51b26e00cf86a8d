-- A marked range has no value, and each other one that of its pair.
use Rattle.std.proofs.Common.{◌∙◌, ℕ, None, Option, Some, ap, arith, cond, length, sym}
use Rattle.prefix_trie_bits.specs.Model.Bits.{number}
use Rattle.prefix_trie_fib.specs.Gaps.{is_marked}
use Rattle.prefix_trie_fib.proofs.Gaps.{pair_inside, range_at, select_not}
use Rattle.prefix_trie_fib.proofs.ranges.line.Line.value.Goals as goal

pub has_mark-requires : goal.has_mark-requires
has_mark-requires g c =
    let inside = pair_inside (λ k. number (g.K.Key.bits k)) (is_marked c.self.inside.gaps.items) c.self.inside.pairs.items c.args.self.now c.args.i c.self.view_is c.requires in
    let words = ap length c.deref.ensures.value in
    omega (arith, inside, c.self.invariant.enough, words)

pub index-requires : goal.index-requires
index-requires g c =
    let inside = pair_inside (λ k. number (g.K.Key.bits k)) (is_marked c.self.inside.gaps.items) c.self.inside.pairs.items c.args.self.now c.args.i c.self.view_is c.requires in
    omega (arith, inside, c.self.inside.pairs.ok.0)

pub returns : goal.returns
returns g c = λ d.
    let at = range_at (λ k. number (g.K.Key.bits k)) (is_marked c.self.inside.gaps.items) c.self.inside.pairs.items c.args.self.now c.args.i d c.index.result.now c.self.view_is c.requires c.index.ensures in
    let mark = ap (λ ws. is_marked ws c.args.i) (sym c.deref.ensures.value) ∙ sym c.has_mark.ensures in
    c.then_some.ensures ∙ select_not c.has_mark.result c.index.result.now.1 ∙ ap (λ b. cond b None (Some c.index.result.now.1)) (sym mark) ∙ sym (ap {A = ℕ × Option g.row.T.Denot} (λ r. r.1) at)
