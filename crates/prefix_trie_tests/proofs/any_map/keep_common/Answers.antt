-- A listed prefix fits, so it may be looked up in the other map, and its path is its key.
use Rattle.prefix_trie_tests.proofs.Prelude.{rules, ap, sym, ◌≡◌, ◌∙◌, subst, of_calls, contains_key, All-weaker, fits_back, listing, keeps_filter, may_ask_stored, listed_paths}
use Rattle.prefix_trie_tests.proofs.AnyMap.{filter_where}
use Rattle.prefix_trie_tests.proofs.any_map.keep_common.Goals as goal

pub retain-requires : goal.retain-requires
retain-requires g c =
    may_ask_stored _ _ _ c.args.map.now.entries (λ f k v has p q is eq.
    let fits : g.P.Prefix.IsFitting p.now = subst g.P.Prefix.IsFitting (sym is) (fits_back g.met.P.Prefix.prefix_laws k (c.len.ensures.whole.is_map.keys_within k has)) in
    search (rules, of_calls, fits))

pub returns : goal.returns
returns g c =
    let back = g.P.Prefix.back in
    let path = g.P.Prefix.path in
    let there = c.args.other.now.entries in
    let kept =
    keeps_filter _ (λ e. contains_key there (path (back e.0))) _ _ _
    (λ e b f' h. (search (rules, of_calls, h.called, h.shows), search (rules, of_calls, h.called))) c.retain.ensures.kept in
    kept
    ∙ filter_where (λ e. contains_key there (path (back e.0))) (λ e. contains_key there e.0) (listing c.args.map.now.entries)
    (All-weaker (λ e. path (back e.0) ≡ e.0) (λ e. contains_key there (path (back e.0)) ≡ contains_key there e.0) (λ e is. ap (contains_key there) is) (listing c.args.map.now.entries)
    (listed_paths g.met.P.Prefix.prefix_laws c.args.map.now.entries c.len.ensures.whole.is_map.keys_within))
