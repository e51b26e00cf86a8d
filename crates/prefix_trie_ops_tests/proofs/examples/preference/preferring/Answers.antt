-- Inserting the preferred value of each item of the union gives, at each key, the first table's value or else the second's.
use Rattle.std.proofs.Common.{rules, ◌≡◌, ◌∙◌, All, ap, ap₂, is_some, map, subst, sym}
use Rattle.std.proofs.lemmas.List.Elements.{All-head, All-rest}
use Rattle.prefix_trie.specs.Terms.{listing, put_all, prefix_pairs, with_entry}
use Rattle.prefix_trie_ops.specs.Merging.{lent_side, union_of}
use Rattle.prefix_trie_ops.proofs.Bounds.{union_within}
use Rattle.prefix_trie_ops_tests.proofs.Preferring.{all_preferred, preferred_item}
use Rattle.prefix_trie_ops_tests.proofs.examples.preference.preferring.Goals as goal

pub loop-prefix-init : goal.loop-prefix-init
loop-prefix-init g c =
    let whole = prefix_pairs g.P.Prefix.back (listing (union_of c.args.first.now.entries c.args.second.now.entries)) in
    let is : c.into_iter-prefix-iterator.result ≡ whole = search rules in (
      tt,
      tt,
      subst (All (λ e. g.P.Prefix.IsFitting e.0)) (c.union-prefix-items.ensures.items ∙ sym is) c.union-prefix-items.ensures.each_fits,
      ap₂ (λ xs t. put_all g.P.Prefix.path (map preferred_item xs) t) is c.in_ok-table.ensures.entries,
    )

pub insert-requires : goal.insert-requires
insert-requires g c =
    All-head (λ e. g.P.Prefix.IsFitting e.0) (lent_side (c.in-Some.prefix, c.in-Some.side)) c.next.new.self
    (subst (All (λ e. g.P.Prefix.IsFitting e.0)) c.in-Some.ensures.steps c.loop-prefix.invariant.2)

pub loop-prefix-preserved : goal.loop-prefix-preserved
loop-prefix-preserved g c =
    let path = g.P.Prefix.path in
    let rest = map preferred_item c.next.new.self in (
      tt,
      tt,
      All-rest (λ e. g.P.Prefix.IsFitting e.0) (lent_side (c.in-Some.prefix, c.in-Some.side)) c.next.new.self c.loop-prefix.prefix-iterator c.in-Some.ensures.steps c.loop-prefix.invariant.2,
      ap (put_all path rest) (c.in_ok-insert.ensures.entries ∙ ap (with_entry c.loop-prefix.table.entries (path c.in-Some.prefix)) c.preferred.ensures)
          ∙ ap (λ xs. put_all path (map preferred_item xs) c.loop-prefix.table.entries) (sym c.in-Some.ensures.steps) ∙ c.loop-prefix.invariant.3,
    )

pub returns : goal.returns
returns g c =
    let m = c.args.first.now.entries in
    let n = c.args.second.now.entries in
    let path = g.P.Prefix.path in
    let within = union_within g.P.R.Key.bit_width m n c.len.ensures.whole.is_map.keys_within c.len-2.ensures.whole.is_map.keys_within in
    all_preferred c.stored_laws.ensures path g.P.Prefix.back m n c.loop-prefix.table.entries (c.combining_laws.ensures.union_at m n)
    (λ e at. c.listed_laws.ensures.key_is (union_of m n) within e.0 (ap is_some ((c.listing_laws.ensures.has_each (union_of m n) e.0 e.1).1 at)))
    (sym (ap (λ xs. put_all path (map preferred_item xs) c.loop-prefix.table.entries) c.in-None.ensures.steps.0) ∙ c.loop-prefix.invariant.3)
