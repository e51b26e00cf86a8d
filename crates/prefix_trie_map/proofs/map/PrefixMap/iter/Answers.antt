-- A walk over the table gives its listing, which has as many items as the map has entries.
use Rattle.prefix_trie_map.proofs.Prelude.{rules, length, sym, ap, ◌∙◌, length-map, len-entries, listing, lent_item}
use Rattle.prefix_trie_map.proofs.map.PrefixMap.iter.Goals as goal

pub returns-clause-items : goal.returns-clause-items
returns-clause-items g c = search rules

pub returns-clause-counted : goal.returns-clause-counted
returns-clause-counted g c =
    let entries = c.args.self.now.entries in
    ap length (returns-clause-items g c) ∙ length-map (listing entries) (λ e. (g.P.Prefix.back e.0, e.1)) ∙ sym (len-entries entries)
