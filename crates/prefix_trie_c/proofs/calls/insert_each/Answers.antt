-- The call ends at the first item that fails, or after the last one.
use Rattle.std.proofs.Common.{◌≡◌, ◌+◌, ◌∷◌, ap, drop, length, map, subst, sym, ◌∙◌, arith}
use Rattle.std.proofs.lemmas.List.{drop_more, drop_all}
use Rattle.prefix_trie_c.specs.Calls.{InsertsEach, InsertsItem}
use Rattle.prefix_trie_c.specs.declared.codes.TheConstants.{DONE}
use Rattle.prefix_trie_c.proofs.Each.{begins_more, begins_fail, begins_all}
use Rattle.prefix_trie_c.proofs.calls.insert_each.Goals as goal

pub returns-then-code-ne-DONE : goal.returns-then-code-ne-DONE
returns-then-code-ne-DONE g c =
    let all = c.args.entries.now in
    let i = c.loop-i.i in
    let e = c.index-entries-i.result in
    let next : drop i all ≡ e ∷ drop (i + 1) all = drop_more all i e c.loop-i-test.true ∙ ap (λ x. x ∷ drop (i + 1) all) (sym c.index-entries-i.is) in
    begins_fail g.P.R.Key.bit_width g.P.Prefix.len_of g.P.Prefix.path g.E.Entry.item_of all c.args.routes.now i c.loop-i.routes c.loop-i.invariant e next c.insert_item-code.new.map c.insert_item-code.result c.if-code-ne-DONE.true c.insert_item-code.ensures

pub loop-i-preserved : goal.loop-i-preserved
loop-i-preserved g c =
    let all = c.args.entries.now in
    let i = c.loop-i.i in
    let e = c.index-entries-i.result in
    let next : drop i all ≡ e ∷ drop (i + 1) all = drop_more all i e c.loop-i-test.true ∙ ap (λ x. x ∷ drop (i + 1) all) (sym c.index-entries-i.is) in
    begins_more g.P.R.Key.bit_width g.P.Prefix.len_of g.P.Prefix.path g.E.Entry.item_of all c.args.routes.now i c.loop-i.routes c.loop-i.invariant e next c.insert_item-code.new.map
    (subst (InsertsItem g.P.R.Key.bit_width g.P.Prefix.len_of g.P.Prefix.path (g.E.Entry.item_of e) c.loop-i.routes c.insert_item-code.new.map) c.if-code-ne-DONE.false c.insert_item-code.ensures)

pub returns : goal.returns
returns g c =
    let all = c.args.entries.now in
    let i = c.loop-i.i in
    let end : i ≡ length all = omega (arith, c.loop-i-test.false, c.loop-i.auto.i-end) in
    subst (InsertsEach g.P.R.Key.bit_width g.P.Prefix.len_of g.P.Prefix.path (map g.E.Entry.item_of all) c.args.routes.now c.loop-i.routes DONE) end
    (begins_all g.P.R.Key.bit_width g.P.Prefix.len_of g.P.Prefix.path g.E.Entry.item_of all c.args.routes.now i c.loop-i.routes c.loop-i.invariant (drop_all i all (omega (arith, end))))
