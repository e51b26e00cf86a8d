-- A whole map has arrays within its limit, which is below 2^32, and is stored as the model requires.
use Rattle.prefix_trie_map.proofs.Prelude.{arith}
use Rattle.prefix_trie_map.proofs.laws.whole_laws.Goals as goal

pub returns : goal.returns
returns g c = record {
  slots_below = λ m whole. (
    (let n = whole.nodes_within in let l = whole.limit_below in omega (arith, n, l)),
    (let n = whole.cells_within in let l = whole.limit_below in omega (arith, n, l)),
  );
  entries_below = λ m whole. (let e = whole.entries_within in let n = whole.cells_within in let l = whole.limit_below in omega (arith, e, n, l));
  is_stored = λ m whole root. record {
    is_map = whole.is_map;
    have_blocks = whole.have_blocks;
    root_fits = root;
    nodes_within = whole.nodes_within;
    cells_within = whole.cells_within;
  };
}
