-- A table's clone has the same keys and nodes, so it is a map again.
use Rattle.prefix_trie_map.proofs.Prelude.{state}
use Rattle.prefix_trie_map.proofs.Clones.{IsMap-copied}
use Rattle.prefix_trie_map.proofs.map.PrefixMap.clone.Goals as goal

pub invariant_of-result : goal.invariant_of-result
invariant_of-result g c =
    IsMap-copied g.T.Clone.is_clone g.P.R.Key.bit_width (state c.self.inside.table) (state c.in_ok-table.table)
    c.in_ok-table.ensures.entries c.in_ok-table.ensures.nodes c.self.invariant

pub returns-clause-entries : goal.returns-clause-entries
returns-clause-entries g c = rw (← c.self.view_is) c.in_ok-table.ensures.entries

pub returns-clause-nodes : goal.returns-clause-nodes
returns-clause-nodes g c = rw (← c.self.view_is) c.in_ok-table.ensures.nodes

pub returns-clause-space : goal.returns-clause-space
returns-clause-space g c = rw (← c.self.view_is) c.in_ok-table.ensures.space

pub returns-clause-layout : goal.returns-clause-layout
returns-clause-layout g c = rw (← c.self.view_is) c.in_ok-table.ensures.layout

pub returns-clause-same : goal.returns-clause-same
returns-clause-same g c = rw (← c.self.view_is) c.in_ok-table.ensures.same
