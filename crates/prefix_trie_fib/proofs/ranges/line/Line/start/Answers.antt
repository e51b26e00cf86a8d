-- A range starts at the first address of its pair.
use Rattle.std.proofs.Common.{ℕ, Option, ap, arith, sym}
use Rattle.prefix_trie_bits.specs.Model.Bits.{number}
use Rattle.prefix_trie_fib.specs.Gaps.{is_marked}
use Rattle.prefix_trie_fib.proofs.Gaps.{pair_inside, range_at}
use Rattle.prefix_trie_fib.proofs.ranges.line.Line.start.Goals as goal

pub index-requires : goal.index-requires
index-requires g c =
    let inside = pair_inside (λ k. number (g.K.Key.bits k)) (is_marked c.self.inside.gaps.items) c.self.inside.pairs.items c.args.self.now c.args.i c.self.view_is c.requires in
    omega (arith, inside, c.self.inside.pairs.ok.0)

pub returns : goal.returns
returns g c = λ d.
    sym (ap {A = ℕ × Option g.row.T.Denot} (λ r. r.0) (range_at (λ k. number (g.K.Key.bits k)) (is_marked c.self.inside.gaps.items) c.self.inside.pairs.items c.args.self.now c.args.i d c.index.result.now c.self.view_is c.requires c.index.ensures))
