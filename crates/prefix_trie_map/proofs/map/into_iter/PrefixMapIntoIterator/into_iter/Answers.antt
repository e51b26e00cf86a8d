-- A consumed map gives its whole listing, which has as many items as it had entries.
use Rattle.prefix_trie_map.proofs.Prelude.{rules, ◌≡◌, ◌<◌, ◌^◌, ◌∙◌, length, sym, ap, length-map, len, len-entries, listing, prefix_pairs, Contents, IsWhole}
use Rattle.prefix_trie_map.proofs.map.into_iter.PrefixMapIntoIterator.into_iter.Goals as goal

pub returns : goal.returns
returns g c =
    let items : c.over.result ≡ prefix_pairs g.P.Prefix.back (listing c.args.self.entries) =
    c.over.ensures
    ∙ ap (prefix_pairs g.P.Prefix.back) (c.into_walk-walk.ensures ∙ ap (λ (s : Contents g.row.T.Denot). listing s.entries) c.self.view_is) in
    let below : len c.args.self.entries < 2 ^ 64 = search rules in
    let whole : IsWhole g.P.R.Key.bit_width c.args.self = search rules in
    record {
      into_iter_gives = (
        items,
        ap length items ∙ length-map (listing c.args.self.entries) (λ e. (g.P.Prefix.back e.0, e.1)) ∙ sym (len-entries c.args.self.entries),
        below,
        whole,
      );
    }
