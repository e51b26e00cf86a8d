-- After `compact` the nodes are the needed ones, so the map keeps its invariant.
use Rattle.std.proofs.Common.{rules, Result, Ok, Err, OnOk, OnErr, sym, subst}
use Rattle.prefix_trie_bits.proofs.Model.NodeSets.{AreNodes-needed}
use Rattle.prefix_trie_bits.specs.Laws.Steps.{IsMap}
use Rattle.prefix_trie_bits.specs.Model.Entries.{Entries}
use Rattle.prefix_trie_bits.specs.Calls.Entries.{AreWithin}
use Rattle.prefix_trie_bits.specs.Model.Nodes.{Nodes}
use Rattle.prefix_trie_bits.specs.Calls.Nodes.{AreNodes}
use Rattle.prefix_trie_bits.specs.Model.Step.{State}
use Rattle.prefix_trie_bits.specs.Model.Storage.{Storage}
use Rattle.prefix_trie_map.proofs.map.PrefixMap.compact.Goals as goal

either : {X E G A B C : Type 0} (r : Result X E) → OnOk r A → OnOk r B → OnErr r C → (A → B → G) → (C → G) → G
either (Ok x) a b c f h = f a b
either (Err e) a b c f h = h c

pub invariant_of-self : goal.invariant_of-self
invariant_of-self g c =
    let width = g.P.R.Key.bit_width in
    let is = c.self.invariant in
    let told = c.compact.ensures in
    either c.compact.result told.entries told.nodes told.kept
    (λ entries nodes. record {
      keys_within = subst (λ (m : Entries g.row.T.Denot). AreWithin width m) (sym entries) is.keys_within;
      are_nodes =
          subst (λ (m : Entries g.row.T.Denot). AreNodes width m c.compact.new.self.nodes) (sym entries)
          (subst (λ (n : Nodes). AreNodes width c.self.inside.table.entries n) (sym nodes) (AreNodes-needed width c.self.inside.table.entries is.keys_within));
    })
    (λ kept. subst (λ (s : State g.row.T.Denot × Storage). IsMap width s.0) (sym kept) is)

pub returns-clause-nodes : goal.returns-clause-nodes
returns-clause-nodes g c = search rules
