-- A set made from an iterator has the paths of its networks: the map of both families gets each network with a unit.
use Rattle.std.proofs.Common.{◌∙◌, ◌+◌, ◌-◌, ◌*◌, ◌^◌, ◌<◌, ap, ap₂, length, of_calls, rules, subst}
use Rattle.std.proofs.lemmas.List.{length-map}
use Rattle.std.proofs.lemmas.Result.{err_from_is_err_and}
use Rattle.std.specs.Iterator.{Drains, Yields}
use Rattle.std.specs.Iterator.Adapters.{map_source}
use Rattle.prefix_trie.specs.Terms.{as_item, no_entries, put_all}
use Rattle.prefix_trie_table.specs.Model.Contents.{Contents}
use Rattle.prefix_trie_joint.specs.Joined.{joined}
use Rattle.prefix_trie_joint.specs.Networks.{ip_path}
use Rattle.prefix_trie_joint.proofs.Units.{all_from, come_from}
use Rattle.prefix_trie_joint.proofs.set.JointPrefixSet.from_iter.Goals as goal

pub returns-clause-entries : goal.returns-clause-entries
returns-clause-entries g c =
    let e = c.in_ok-ipv4.ensures.entries in
    let d = all_from g.I.IntoIter.Iterator.next_gives as_item _ (λ f p x f' called. search (rules, of_calls, called)) e.1 e.0 e.3 in (
      c.into_iter.result,
      d.0,
      c.into_iter.ensures.into_iter_gives,
      subst (λ s. Drains g.I.IntoIter.Iterator.next_gives s d.0) (ap map_source e.2 ∙ c.map-units.ensures.source) d.1,
      ap₂ (λ (m n : Contents (Unit {0})). joined m.entries n.entries) c.from_map.ensures c.from_map-2.ensures ∙ e.4 ∙ ap (λ xs. put_all ip_path xs no_entries) d.2,
    )

pub returns-in_err-ipv4-clause-range : goal.returns-in_err-ipv4-clause-range
returns-in_err-ipv4-clause-range g c =
    let p = err_from_is_err_and c.from_residual.result c.from_residual.ensures.1 in
    rw (p.1, p.2) (λ is_range.
    let e = c.in_err-ipv4.ensures.range is_range in
    let y = come_from g.I.IntoIter.Iterator.next_gives as_item _ (λ f p x f' called. search (rules, of_calls, called)) e.1 e.0 e.2 e.4 in (
      c.into_iter.result,
      y.0,
      map_source e.2,
      c.into_iter.ensures.into_iter_gives,
      subst (λ s. Yields g.I.IntoIter.Iterator.next_gives s y.0 (map_source e.2)) (ap map_source e.3 ∙ c.map-units.ensures.source) y.1,
      subst (λ n. 2 ^ 32 - 1 < 1 + 56 * n) (ap length y.2 ∙ length-map y.0 as_item) e.5,
    ))
