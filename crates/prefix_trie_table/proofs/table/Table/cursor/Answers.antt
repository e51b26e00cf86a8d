-- The stack that `start_at` builds has the keys that are selected from the bit string.
use Rattle.prefix_trie_table.proofs.Prelude.{map, ap, Tree}
use Rattle.prefix_trie_table.proofs.Tree.Invariant.{trie_of}
use Rattle.prefix_trie_table.proofs.table.Table.cursor.Goals as goal

pub start_at-stack-requires : goal.start_at-stack-requires
start_at-stack-requires g c =
    let i = c.self.inside in record {
      begun = c.key-key.ensures.bits;
      tree = (
        record { count = i.count; cells = i.cells; shape = i.shape.0 },
        trie_of g.K.Key.bit_width i.count i.nodes i.cells i.shape c.self.invariant c.args.self.now c.self.view_is c.requires.within c.requires.nodes,
      );
    }

pub returns : goal.returns
returns g c =
    let i = c.self.inside in
    let t : Tree g.row.T.Denot = record { count = i.count; cells = i.cells; shape = i.shape.0 } in
    let tree = trie_of g.K.Key.bit_width i.count i.nodes i.cells i.shape c.self.invariant c.args.self.now c.self.view_is c.requires.within c.requires.nodes in
    record {
      is_there = rw (← c.self.view_is) c.start_at-stack.ensures.stack;
      keys = rw (← c.self.view_is) (ap (map (λ e. e.0)) (c.start_at-stack.ensures.rest t tree));
    }
