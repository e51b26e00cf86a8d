-- The sets of all parts are those of the part at the root.
use Rattle.std.proofs.Common.{◌≡◌, ◌∙◌, ◌+◌, ◌++◌, None, length, ap, sym, subst, arith}
use Rattle.std.specs.List.{AllZip}
use Rattle.prefix_trie_ops.specs.Choosing.{part_values}
use Rattle.prefix_trie_ops.specs.ValueSets.{Holds}
use Rattle.prefix_trie_ops.proofs.map.optimal.choosing.choices_of.Goals as goal

pub returns : goal.returns
returns g c source within is root exact =
    let width = g.P.R.Key.bit_width in
    let path = g.P.Prefix.path c.args.root.now in
    let eq = g.T.PartialEq.eq in
    let cmp = g.T.Ord.cmp in
    let sets = c.choose.new.sets.items in
    let values = c.choose.new.values.items in
    let long : length path + width ≡ width = let l = ap length root in omega arith in
    let all = c.in_ok-choose.ensures.chooses source width within long is exact in
    let listed : sets ≡ all.more = all.listed ∙ ap (λ zs. zs ++ all.more) c.new-sets.ensures.items in
    subst (λ t. AllZip (Holds values) sets (part_values eq cmp source width t None)) root
    (subst (λ zs. AllZip (Holds values) zs (part_values eq cmp source width path None)) (sym listed) all.parts)
