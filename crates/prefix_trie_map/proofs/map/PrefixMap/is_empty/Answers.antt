-- A map is empty exactly if its number of entries is 0.
use Rattle.prefix_trie_map.proofs.Prelude.{◌≡◌, sym, ap, ◌∙◌, eqb-true, eq-eqb, len, empty_of_len, len-empty, listing_cmp}
use Rattle.prefix_trie_map.proofs.map.PrefixMap.is_empty.Goals as goal

pub returns-clause-none : goal.returns-clause-none
returns-clause-none g c =
    let entries = c.args.self.now.entries in
    let counted : c.len.result ≡ len entries = c.len.ensures.count in (
      λ zero. empty_of_len entries (sym counted ∙ eqb-true c.len.result 0 zero),
      λ none. eq-eqb c.len.result 0 (counted ∙ ap len none ∙ len-empty listing_cmp g.row.T.Denot),
    )
