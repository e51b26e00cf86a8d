-- An advance gives the first key to come and the seats of its values.
use Rattle.prefix_trie_table.proofs.Prelude.{ap, Contents}
use Rattle.prefix_trie_table.proofs.Tree.Invariant.{trie_of}
use Rattle.prefix_trie_table.proofs.Walk.CombinedNodes.{combined_of}
use Rattle.prefix_trie_table.proofs.table.Table.combined_step.Goals as goal

pub advance_both-requires : goal.advance_both-requires
advance_both-requires g c =
    let i = c.self.inside in
    let j = c.other.inside in
    let left = ap (λ (s : Contents g.row.T.Denot). s.build) c.self.view_is in
    let right = ap (λ (s : Contents g.row.U.Denot). s.build) c.other.view_is in
    record {
      trees = (
        record { count = i.count; cells = i.cells; shape = i.shape.0 },
        record { count = j.count; cells = j.cells; shape = j.shape.0 },
        record {
          left_is = trie_of g.K.Key.bit_width i.count i.nodes i.cells i.shape c.self.invariant c.args.self.now c.self.view_is c.requires.within c.requires.nodes;
          right_is = trie_of g.K.Key.bit_width j.count j.nodes j.cells j.shape c.other.invariant c.args.other.now c.other.view_is c.requires.other_within c.requires.other_nodes;
        },
      );
      stack = rw left (rw right c.requires.is_there);
    }

pub returns-in_default : goal.returns-in_default
returns-in_default g c =
    let i = c.self.inside in
    let j = c.other.inside in
    let left = ap (λ (s : Contents g.row.T.Denot). s.build) c.self.view_is in
    let right = ap (λ (s : Contents g.row.U.Denot). s.build) c.other.view_is in
    record {
      is_there = rw (← left) (rw (← right) c.in_default.ensures.stack);
      entry = λ both combined.
          c.in_default.ensures.entry both
          (combined_of i.nodes j.nodes i.cells j.cells i.count j.count i.shape j.shape c.self.invariant c.other.invariant c.args.self.now.entries c.args.other.now.entries
          (ap (λ (s : Contents g.row.T.Denot). s.entries) c.self.view_is) (ap (λ (s : Contents g.row.U.Denot). s.entries) c.other.view_is) c.args.combination both combined);
      filled = tt;
      values = tt;
    }

pub returns : goal.returns
returns g c =
    let i = c.self.inside in
    let j = c.other.inside in
    let left = ap (λ (s : Contents g.row.T.Denot). s.build) c.self.view_is in
    let right = ap (λ (s : Contents g.row.U.Denot). s.build) c.other.view_is in
    record {
      is_there = rw (← left) (rw (← right) c.in-Some.ensures.stack);
      entry = λ both combined.
          c.in-Some.ensures.entry both
          (combined_of i.nodes j.nodes i.cells j.cells i.count j.count i.shape j.shape c.self.invariant c.other.invariant c.args.self.now.entries c.args.other.now.entries
          (ap (λ (s : Contents g.row.T.Denot). s.entries) c.self.view_is) (ap (λ (s : Contents g.row.U.Denot). s.entries) c.other.view_is) c.args.combination both combined);
      filled = c.in-Some.ensures.filled;
      values = (
        c.value_at_seat.ensures _ (rw (← left) c.in-Some.ensures.seats.0),
        c.value_at_seat-2.ensures _ (rw (← right) c.in-Some.ensures.seats.1),
      );
    }
