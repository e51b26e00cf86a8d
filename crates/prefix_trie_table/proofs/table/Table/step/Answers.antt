-- An advance gives the first key to come and the seat of its value, so that key is stored.
use Rattle.prefix_trie_table.proofs.Prelude.{sym, subst, Contents, IsCursorIn, Tree, pending}
use Rattle.prefix_trie_table.proofs.Tree.Invariant.{trie_of}
use Rattle.prefix_trie_table.proofs.Walk.ItemsToCome.{step_gives, seated_stored}
use Rattle.prefix_trie_table.proofs.table.Table.step.Goals as goal

pub advance-requires : goal.advance-requires
advance-requires g c =
    let i = c.self.inside in
    let cursor = c.args.cursor.now in
    record {
      tree = (
        record { count = i.count; cells = i.cells; shape = i.shape.0 },
        trie_of g.K.Key.bit_width i.count i.nodes i.cells i.shape c.self.invariant c.args.self.now c.self.view_is c.requires.within c.requires.nodes,
      );
      stack = subst (λ (s : Contents g.row.T.Denot). IsCursorIn g.K.Key.bits g.K.Key.bit_width s.build cursor) (sym c.self.view_is) c.requires.is_there;
    }

pub returns : goal.returns
returns g c =
    let i = c.self.inside in
    let cursor = c.args.cursor.now in
    let t : Tree g.row.T.Denot = record { count = i.count; cells = i.cells; shape = i.shape.0 } in
    let tree = trie_of g.K.Key.bit_width i.count i.nodes i.cells i.shape c.self.invariant c.args.self.now c.self.view_is c.requires.within c.requires.nodes in
    record {
      is_there = rw (← c.self.view_is) c.advance.ensures.stack;
      key = rw (← c.self.view_is) (step_gives g.K.Key.IsKey g.K.Key.bits g.K.Key.bit_width t i.nodes.slots (pending i.shape.0.entries (g.K.Key.bits cursor.key) cursor.stack.items)
          (pending i.shape.0.entries (g.K.Key.bits c.advance.new.key) c.advance.new.stack.items) c.advance.result (c.advance.ensures.entry t tree) c.advance.ensures.seat);
      stored = rw (← c.self.view_is) (seated_stored g.K.Key.bits i.nodes i.cells i.count i.shape c.self.invariant c.advance.result c.advance.ensures.seat);
    }
