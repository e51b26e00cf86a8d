-- A walk below the path of a prefix gives what the prefix contains, which is no more than the map has.
use Rattle.prefix_trie_map.proofs.Prelude.{rules, ◌<◌, ◌^◌, length, ap, arith, begins, len, lent_item, ◌≡◌, ◌∙◌, prefix_pairs, listing_below}
use Rattle.prefix_trie_map.proofs.Steps.{by_key}
use Rattle.prefix_trie_map.proofs.Listed.{few_shown}
use Rattle.prefix_trie_map.proofs.map.PrefixMap.children.Goals as goal

pub returns-clause-items : goal.returns-clause-items
returns-clause-items g c =
    by_key (λ m k. c.over.result ≡ prefix_pairs g.P.Prefix.back (listing_below m.entries k)) c.self.view_is c.path.ensures.path (c.over.ensures ∙ ap (prefix_pairs g.P.Prefix.back) c.walk_below-walk.ensures)

pub returns-clause-fits : goal.returns-clause-fits
returns-clause-fits g c =
    let below : len c.args.self.now.entries < 2 ^ 64 = search rules in
    omega (arith, ap length (returns-clause-items g c), few_shown g.P.Prefix.back c.args.self.now.entries (λ e. begins (g.P.Prefix.path c.args.prefix.now) e.0), below)
