-- The last item of a chain is the last of its list, so its value is the one that is compared.
use Rattle.std.proofs.Common.{rules, ◌≡◌, ◌∙◌, ◌-◌, sym, length, Some}
use Rattle.std.specs.List.{slice_get}
use Rattle.prefix_trie_ops.proofs.Chains.{top}
use Rattle.prefix_trie_ops.proofs.map.aggregation.is_top_equal.Goals as goal

pub returns-in-Some : goal.returns-in-Some
returns-in-Some g c =
    let h : slice_get c.args.above.now.items (length c.args.above.now.items - 1) ≡ Some c.in-Some.field-0.now = search rules in
    let e : c.eq.result ≡ g.T.PartialEq.eq c.in-Some.field-0.now.1.now c.args.value.now = search rules in
    e ∙ sym (top g.T.PartialEq.eq c.args.above.now.items c.in-Some.field-0.now c.args.value.now h)
