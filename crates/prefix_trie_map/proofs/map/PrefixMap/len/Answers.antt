-- A map is whole: its table has blocks for its nodes, and both arrays are within a limit below 2^32.
use Rattle.prefix_trie_map.proofs.Prelude.{rules, subst, Contents, IsWhole}
use Rattle.prefix_trie_map.proofs.map.PrefixMap.len.Goals as goal

pub returns-clause-whole : goal.returns-clause-whole
returns-clause-whole g c =
    let space = c.len.ensures.limit in
    subst (λ (m : Contents g.row.T.Denot). IsWhole g.P.R.Key.bit_width m) c.self.view_is
    (record { is_map = c.self.invariant; have_blocks = c.len.ensures.blocks; limit_below = space.0; nodes_within = space.1; cells_within = space.2; entries_within = c.len.ensures.few })

pub returns-clause-count : goal.returns-clause-count
returns-clause-count g c = search rules
