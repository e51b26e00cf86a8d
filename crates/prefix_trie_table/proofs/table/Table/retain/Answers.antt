-- Removing the entries that the test rejects is the model's step, and the table keeps its invariant.
use Rattle.prefix_trie_table.proofs.Prelude.{◌≡◌, refl, sym, subst, CallableOnEachEntry, RetainsEntriesTo, AreWithin, listing, State, Contents, same_shape}
use Rattle.prefix_trie_table.proofs.Tree.Invariant.{some_table}
use Rattle.prefix_trie_table.proofs.Removal.RemovedParts.{seen_trie}
use Rattle.prefix_trie_table.proofs.Blocks.NodeLayouts.{table_sizes}
use Rattle.prefix_trie_table.proofs.Moving.SplitTables.{shape_seen, table_seen}
use Rattle.prefix_trie_table.proofs.Tree.ModelSteps.{retains_step, bounds_growth_in}
use Rattle.prefix_trie_bits.proofs.Model.RetainCalls.{retains-from_to}
use Rattle.prefix_trie_table.proofs.table.Table.retain.Goals as goal

pub retain_entries-requires-clause-trie : goal.retain_entries-requires-clause-trie
retain_entries-requires-clause-trie g c = (c.self.inside.shape.0, seen_trie c.self.inside.shape c.self.invariant c.self.view_is refl c.requires.within c.requires.nodes)

pub retain_entries-requires-clause-may_ask : goal.retain_entries-requires-clause-may_ask
retain_entries-requires-clause-may_ask g c = λ s is.
    let same : c.self.inside.shape.0 ≡ s = same_shape c.self.inside.nodes.slots c.self.inside.cells.slots c.self.inside.shape.0 s c.self.inside.shape.1 is.shaped in
    subst (λ (x : State g.row.T.Denot). CallableOnEachEntry g.F.Keep.may_return g.F.Keep.accepts c.args.keep.now (listing x.entries)) same
    (subst (λ (x : Contents g.row.T.Denot). CallableOnEachEntry g.F.Keep.may_return g.F.Keep.accepts c.args.keep.now (listing x.entries)) (sym c.self.view_is) c.requires.may_ask)

pub invariant_of-self-inside : goal.invariant_of-self-inside
invariant_of-self-inside g c =
    let all = c.retain_entries.ensures.kept c.self.inside.shape.0
    (seen_trie c.self.inside.shape c.self.invariant c.self.view_is refl c.requires.within c.requires.nodes) in
    ((all.after, all.trie.shaped), (table_sizes _ _ (some_table all.trie.table), tt))

pub invariant_of-self : goal.invariant_of-self
invariant_of-self g c =
    let trie = seen_trie c.self.inside.shape c.self.invariant c.self.view_is refl c.requires.within c.requires.nodes in
    table_seen (c.retain_entries.ensures.kept c.self.inside.shape.0 trie).trie c.self-1.given.0

pub returns : goal.returns
returns g c =
    let i = c.self.inside in
    let new = c.retain_entries.new in
    let s2 = c.self-1.given.0 in
    let all = c.retain_entries.ensures.kept i.shape.0 (seen_trie i.shape c.self.invariant c.self.view_is refl c.requires.within c.requires.nodes) in
    let same = sym (shape_seen all.trie s2) in
    let left = invariant_of-self g c in
    rw (← c.self.view_is) (record {
      kept = subst (λ (x : State g.row.T.Denot). RetainsEntriesTo g.F.Keep.may_return c.args.keep.now (listing i.shape.0.entries) (listing x.entries) c.retain_entries.new.keep) same all.asked;
      step = retains_step i.nodes new.nodes i.cells new.cells _ _ i.shape c.self.invariant i.sizes s2 left c.self-1.given.1.0 c.retain_entries.ensures.preserves
          g.F.Keep.may_return c.args.keep.now all.after same (retains-from_to g.F.Keep.may_return c.args.keep.now _ _ _ all.asked) all.tidy;
      fits = subst (λ (x : State g.row.T.Denot). AreWithin g.K.Key.bit_width x.entries) same all.trie.within;
      bounds_growth = bounds_growth_in i.nodes new.nodes i.cells new.cells _ _ i.shape c.self.invariant i.sizes s2 left c.self-1.given.1.0 c.retain_entries.ensures.preserves;
    })
