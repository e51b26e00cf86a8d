-- A set made from an iterator has the paths of its items: the map gets each item with a unit.
use Rattle.prefix_trie.proofs.Prelude.{rules, of_calls, ◌∙◌, ◌+◌, ◌-◌, ◌*◌, ◌^◌, ◌<◌, All, length, sym, ap, subst, length-map, err_from_is_err_and, HoldsAlong, Yields, Drains, map_source, no_entries, put_all, as_item}
use Rattle.prefix_trie.proofs.WalkItems.{come_copied, all_copied, copies_hold}
use Rattle.prefix_trie.proofs.set.PrefixSet.from_iter.Goals as goal

pub from_iter-requires-clause-fit : goal.from_iter-requires-clause-fit
from_iter-requires-clause-fit g c = λ it is.
    copies_hold g.I.IntoIter.Iterator.next_gives as_item _ (λ f p x f' called. search (rules, of_calls, called)) (λ item. g.P.Prefix.IsFitting item.0) it
    (subst (λ s. HoldsAlong g.I.IntoIter.Iterator.next_gives s (All g.P.Prefix.IsFitting)) (sym (ap map_source is ∙ c.map-units.ensures.source))
    (c.requires.fit c.into_iter.result c.into_iter.ensures.into_iter_gives))

pub returns-clause-entries : goal.returns-clause-entries
returns-clause-entries g c =
    let e = c.in_ok-map.ensures.entries in
    let d = all_copied g.I.IntoIter.Iterator.next_gives as_item _ (λ f p x f' called. search (rules, of_calls, called)) e.1 e.0 e.3 in (
      c.into_iter.result,
      d.0,
      c.into_iter.ensures.into_iter_gives,
      subst (λ s. Drains g.I.IntoIter.Iterator.next_gives s d.0) (ap map_source e.2 ∙ c.map-units.ensures.source) d.1,
      e.4 ∙ ap (λ xs. put_all g.P.Prefix.path xs no_entries) d.2,
    )

pub returns-in_err-map-clause-range : goal.returns-in_err-map-clause-range
returns-in_err-map-clause-range g c =
    let p = err_from_is_err_and c.from_residual.result c.from_residual.ensures.1 in
    rw (p.1, p.2) (λ is_range.
    let e = c.in_err-map.ensures.range is_range in
    let y = come_copied g.I.IntoIter.Iterator.next_gives as_item _ (λ f p x f' called. search (rules, of_calls, called)) e.1 e.0 e.2 e.4 in (
      c.into_iter.result,
      y.0,
      map_source e.2,
      c.into_iter.ensures.into_iter_gives,
      subst (λ s. Yields g.I.IntoIter.Iterator.next_gives s y.0 (map_source e.2)) (ap map_source e.3 ∙ c.map-units.ensures.source) y.1,
      subst (λ n. 2 ^ 32 - 1 < 1 + 56 * n) (ap length y.2 ∙ length-map y.0 as_item) e.5,
    ))
