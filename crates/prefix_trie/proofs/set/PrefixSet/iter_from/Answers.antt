-- The keys from a prefix on are the first parts of the items of the map's `iter_from`.
use Rattle.prefix_trie.proofs.Prelude.{◌∙◌, map, cond, ap, map-map, listing_from, listing_after, Contents}
use Rattle.prefix_trie.proofs.set.PrefixSet.iter_from.Goals as goal

pub returns-clause-items : goal.returns-clause-items
returns-clause-items g c =
    c.new.ensures ∙ ap (map (λ e. e.0)) c.iter_from.ensures.items ∙ map-map (λ e. e.0) _ _
    ∙ ap (λ (s : Contents (Unit {0})). map (λ e. g.P.Prefix.back e.0) (cond c.args.inclusive
    (listing_from s.entries (g.P.Prefix.path c.args.prefix.now)) (listing_after s.entries (g.P.Prefix.path c.args.prefix.now)))) c.self.view_is
