-- The bound on growth adds up over calls, since what an array grows by is taken from the headroom of its blocks.
use Rattle.prefix_trie_map.proofs.Prelude.{arith, refl}
use Rattle.prefix_trie_table.specs.GrowthBounds.{headroom}
use Rattle.prefix_trie_map.proofs.laws.growth_laws.Goals as goal

pub returns : goal.returns
unfolding headroom
returns c = record {
  headrooms = refl;
  nodes_grow = λ before after bounds_growth. (let n = bounds_growth.nodes in omega (arith, n));
  cells_grow = λ before after bounds_growth. (let n = bounds_growth.cells in omega (arith, n));
  joined = λ before mid after first second. record {
    nodes = (let a = first.nodes in let b = second.nodes in omega (arith, a, b));
    cells = (let a = first.cells in let b = second.cells in omega (arith, a, b));
  };
}
