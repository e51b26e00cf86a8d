-- The next entry to come in the second table has the key of the value that is passed, so the value is put into its seat.
use Rattle.prefix_trie_table.proofs.Prelude.{◌≡◌, Bool, false, List, refl, subst, sym, Seats, AwaitsNext, HasCome}
use Rattle.prefix_trie_table.proofs.Moving.NextValue.{whole_tree, some_comes, seat_inside, has_come}
use Rattle.prefix_trie_table.proofs.table.part_moving.SeatsKeep.taken.Given as given
use Rattle.prefix_trie_table.proofs.table.part_moving.SeatsKeep.taken.Goals as goal

-- the next to come at a state
abbrev Next : (g : given.Over) → List Bool → g.row.T.Denot → Seats g.row.K.Denot g.row.T.Denot g.row.A.Denot g.row.V.Denot → Type 0
Next g q x b = AwaitsNext g.K.Key.IsKey g.K.Key.bits g.K.Key.bit_width b.nodes b.cells b.key b.stack.items q x

pub advance-requires-clause-tree : goal.advance-requires-clause-tree
advance-requires-clause-tree g c =
    let s = c.args.self.now in
    let n = subst (Next g c.args._path.now c.args.value) (sym c.requires.1.0) c.requires.1.1 in
    (whole_tree g.K.Key.IsKey g.K.Key.bits g.K.Key.bit_width s.nodes s.cells s.key s.stack.items _ _ n.shape n.later n.awaits, n.awaits.trie)

pub unreachable-requires : goal.unreachable-requires
unreachable-requires g c =
    let s = c.args.self.now in
    let n = subst (Next g c.args._path.now c.args.value) (sym c.requires.1.0) c.requires.1.1 in
    let t = whole_tree g.K.Key.IsKey g.K.Key.bits g.K.Key.bit_width s.nodes s.cells s.key s.stack.items _ _ n.shape n.later n.awaits in
    some_comes g.K.Key.IsKey g.K.Key.bits g.K.Key.bit_width s.nodes s.cells s.key s.stack.items _ _ n.shape n.later n.awaits
    (c.in_default.ensures.entry t n.awaits.trie).0

pub put-requires : goal.put-requires
put-requires g c =
    let s = c.args.self.now in
    let n = subst (Next g c.args._path.now c.args.value) (sym c.requires.1.0) c.requires.1.1 in
    let t = whole_tree g.K.Key.IsKey g.K.Key.bits g.K.Key.bit_width s.nodes s.cells s.key s.stack.items _ _ n.shape n.later n.awaits in
    record {
      within = seat_inside g.K.Key.IsKey g.K.Key.bits g.K.Key.bit_width s.nodes s.cells s.key s.stack.items _ _ n.shape n.later n.awaits
          c.advance.new.key c.advance.new.stack.items _ _ c.in-Some.seat (c.in-Some.ensures.entry t n.awaits.trie);
      value = tt;
    }

pub returns : goal.returns
returns g c = λ before refused.
    let s = c.args.self.now in
    subst (λ (b : Seats g.row.K.Denot g.row.T.Denot g.row.A.Denot g.row.V.Denot). (false ≡ false) × HasCome g.K.Key.IsKey g.K.Key.bits g.K.Key.bit_width b.nodes s.nodes b.cells c.put.new.self
    b.key b.stack.items c.advance.new.key c.advance.new.stack.items c.args._path.now c.args.value) refused.0 (
      refl,
      has_come g.K.Key.IsKey g.K.Key.bits g.K.Key.bit_width s.nodes s.cells s.key s.stack.items _ _
          c.advance.new.key c.advance.new.stack.items _ _ c.in-Some.seat c.in-Some.ensures.entry c.in-Some.ensures.seat c.advance.ensures.stack
          c.put.new.self c.put.ensures.slots,
    )
