-- A walk from the path of a prefix gives part of the listing, so it has no more items than the map has entries.
use Rattle.prefix_trie_map.proofs.Prelude.{rules, ◌<◌, ◌^◌, length, ap, arith, len, lent_item, ◌≡◌, ◌∙◌, prefix_pairs, cond, listing_from, listing_after}
use Rattle.prefix_trie_map.proofs.Steps.{by_key}
use Rattle.prefix_trie_map.proofs.Listed.{few_from}
use Rattle.prefix_trie_map.proofs.map.PrefixMap.iter_from.Goals as goal

pub returns-clause-items : goal.returns-clause-items
returns-clause-items g c =
    by_key (λ m k. c.over.result ≡ prefix_pairs g.P.Prefix.back (cond c.args.inclusive (listing_from m.entries k) (listing_after m.entries k))) c.self.view_is c.path.ensures.path (c.over.ensures ∙ ap (prefix_pairs g.P.Prefix.back) c.walk_from-walk.ensures)

pub returns-clause-fits : goal.returns-clause-fits
returns-clause-fits g c =
    let below : len c.args.self.now.entries < 2 ^ 64 = search rules in
    omega (arith, ap length (returns-clause-items g c), few_from g.P.Prefix.back c.args.self.now.entries c.args.inclusive (g.P.Prefix.path c.args.prefix.now), below)
