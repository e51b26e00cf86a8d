-- A range that has a value has that of its pair.
use Rattle.std.proofs.Common.{arith}
use Rattle.prefix_trie_bits.specs.Model.Bits.{number}
use Rattle.prefix_trie_fib.specs.Gaps.{is_marked}
use Rattle.prefix_trie_fib.proofs.Gaps.{kept_at, pair_inside}
use Rattle.prefix_trie_fib.proofs.ranges.line.Line.kept.Goals as goal

pub index-requires : goal.index-requires
index-requires g c =
    let inside = pair_inside (λ k. number (g.K.Key.bits k)) (is_marked c.self.inside.gaps.items) c.self.inside.pairs.items c.args.self.now c.args.i c.self.view_is c.requires.inside in
    omega (arith, inside, c.self.inside.pairs.ok.0)

pub returns : goal.returns
returns g c = λ d.
    kept_at (λ k. number (g.K.Key.bits k)) (is_marked c.self.inside.gaps.items) c.self.inside.pairs.items c.args.self.now c.args.i d c.index.result.now c.self.view_is c.requires.inside c.index.ensures (c.requires.valued d)
