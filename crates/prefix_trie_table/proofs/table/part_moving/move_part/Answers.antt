-- Each removed value is moved to the next seat of the second table, in listing order, so that table has the split-off part.
use Rattle.prefix_trie_table.proofs.Prelude.{◌≡◌, ◌∙◌, sym, ap, subst, length, [], take, len, listing_below, entries, part_below, State, Seats, filled_with, split_off, IsTrie}
use Rattle.prefix_trie_table.proofs.Moving.FilledTables.{second_trie}
use Rattle.prefix_trie_table.proofs.Moving.MovedParts.{Fills, may_move, all_moved}
use Rattle.prefix_trie_table.proofs.table.part_moving.move_part.Given as given
use Rattle.prefix_trie_table.proofs.table.part_moving.move_part.Goals as goal

pub start_at-stack-requires : goal.start_at-stack-requires
start_at-stack-requires g c =
    let s = c.requires.trie.0 in
    let q = c.args.path in record {
      begun = subst (λ s. take (length s) (g.K.Key.bits c.key-key.result) ≡ s) (sym c.copy-from.ensures) c.key-key.ensures.bits;
      tree = (
        record { count = len (part_below s.entries q); cells = filled_with c.args.built.slots (entries (part_below s.entries q)) c.args.vacant; shape = split_off s q },
        second_trie g.K.Key.bit_width c.args.entries.now c.args.nodes.now c.args.cells.now s c.requires.trie.1 q c.args.built c.args.vacant c.requires.second,
      );
    }

pub remove_part-requires-clause-may_ask : goal.remove_part-requires-clause-may_ask
remove_part-requires-clause-may_ask g c = λ s trie.
    may_move g.K.Key.IsKey g.K.Key.bits g.K.Key.bit_width {F = Seats g.row.K.Denot g.row.T.Denot g.row.A.Denot g.row.V.Denot}
    (λ f. f.nodes) (λ f. f.cells) (λ f. f.key) (λ f. f.stack.items) c.args.entries.now c.args.nodes.now c.args.cells.now s trie
    c.args.path (record { nodes = c.args.built; cells = c.args.vacant; key = c.key-key.result; stack = c.start_at-stack.result })
    c.requires.second c.start_at-stack.ensures.stack (λ t tree. c.start_at-stack.ensures.rest t tree ∙ ap (listing_below t.shape.entries) c.copy-from.ensures)

-- what the second table has then
filled : (g : given.Over) (c : goal.After-remove_part g) → (s : State g.row.T.Denot) → IsTrie g.K.Key.bit_width c.args.entries.now c.args.nodes.now c.args.cells.now s →
    Fills g.K.Key.IsKey g.K.Key.bits g.K.Key.bit_width (split_off s c.args.path) c.args.built c.args.vacant
    c.remove_part.new.keep.nodes c.remove_part.new.keep.cells c.remove_part.new.keep.key c.remove_part.new.keep.stack.items []
filled g c = λ s trie.
    all_moved g.K.Key.IsKey g.K.Key.bits g.K.Key.bit_width {F = Seats g.row.K.Denot g.row.T.Denot g.row.A.Denot g.row.V.Denot}
    (λ f. f.nodes) (λ f. f.cells) (λ f. f.key) (λ f. f.stack.items) c.args.entries.now c.args.nodes.now c.args.cells.now s trie
    c.args.path (record { nodes = c.args.built; cells = c.args.vacant; key = c.key-key.result; stack = c.start_at-stack.result })
    c.requires.second c.start_at-stack.ensures.stack (λ t tree. c.start_at-stack.ensures.rest t tree ∙ ap (listing_below t.shape.entries) c.copy-from.ensures) c.remove_part.new.keep (c.remove_part.ensures.up_to s trie)

pub returns : goal.returns
returns g c = record {
  removed = c.remove_part.ensures.removed;
  preserves = c.remove_part.ensures.preserves;
  moved = λ s trie. (filled g c s trie).awaits.trie;
  nodes = (filled g c c.requires.trie.0 c.requires.trie.1).nodes;
  cells = (filled g c c.requires.trie.0 c.requires.trie.1).cells;
}
