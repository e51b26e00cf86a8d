-- The covers of a prefix have different lengths from 0 to its own, so there are at most 129.
use Rattle.prefix_trie_map.proofs.Prelude.{length, ap, ◌∙◌, arith, length-map, covers, covers_few, lent_item, ◌≡◌, prefix_pairs}
use Rattle.prefix_trie_map.proofs.Steps.{by_key}
use Rattle.prefix_trie_map.proofs.map.PrefixMap.cover.Goals as goal

pub returns-clause-items : goal.returns-clause-items
returns-clause-items g c =
    by_key (λ m k. c.over.result ≡ prefix_pairs g.P.Prefix.back (covers m.entries k)) c.self.view_is c.path.ensures.path (c.over.ensures ∙ ap (prefix_pairs g.P.Prefix.back) c.cover-walk.ensures)

pub returns-clause-counted : goal.returns-clause-counted
returns-clause-counted g c =
    let found = covers c.args.self.now.entries (g.P.Prefix.path c.args.prefix.now) in
    ap length (returns-clause-items g c) ∙ length-map found (λ e. (g.P.Prefix.back e.0, e.1))

pub returns-clause-fits : goal.returns-clause-fits
returns-clause-fits g c =
    let path = g.P.Prefix.path c.args.prefix.now in
    omega (arith, covers_few c.args.self.now.entries path, c.path.ensures.short, g.met.P.Prefix.prefix_laws.keys.at_most_128)
