-- The keys that a prefix contains are the first parts of the items of the map's `children`.
use Rattle.prefix_trie.proofs.Prelude.{◌∙◌, map, ap, map-map, listing_below, Contents}
use Rattle.prefix_trie.proofs.set.PrefixSet.children.Goals as goal

pub returns-clause-items : goal.returns-clause-items
returns-clause-items g c =
    c.new.ensures ∙ ap (map (λ e. e.0)) c.children.ensures.items ∙ map-map (λ e. e.0) _ _
    ∙ ap (λ (s : Contents (Unit {0})). map (λ e. g.P.Prefix.back e.0) (listing_below s.entries (g.P.Prefix.path c.args.prefix.now))) c.self.view_is
