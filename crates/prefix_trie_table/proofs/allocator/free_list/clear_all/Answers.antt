-- Each iteration clears one more list, so no list has a block after the loop.
use Rattle.prefix_trie_table.proofs.Prelude.{◌++◌, length, map, take, drop, set, sym, ap, ◌∙◌, append-nil, length-map, take_all, drop_all, take-append_seam, map_over_more, Tier, no_blocks}
use Rattle.prefix_trie_table.proofs.allocator.free_list.clear_all.Goals as goal

pub loop-list-preserved : goal.loop-list-preserved
loop-list-preserved g c =
    ap (λ (t : Tier). set c.loop-list.list-items c.loop-list.list-index t) (c.clear.ensures ∙ ap (λ (t : Tier). no_blocks t.size) (sym c.list-item.is)) ∙ map_over_more (λ t. no_blocks t.size) _ c.loop-list.list-items c.loop-list.list-index c.list-item.result c.loop-list-test.true c.loop-list.invariant c.list-item.is

pub returns : goal.returns
returns g c =
    let l = c.loop-list in
    let xs = c.deref_mut-list-items.result.now in
    let past = c.loop-list-test.false in
    let all = l.invariant ∙ (λ i. map (λ (t : Tier). no_blocks t.size) (take_all l.list-index xs past i) ++ drop_all l.list-index xs past i) ∙ append-nil _ ∙ ap (map (λ (t : Tier). no_blocks t.size)) c.deref_mut-list-items.ensures.value in
    let long = c.args.lists.now.ok.0 ∙ sym (ap length all ∙ length-map c.args.lists.now.items _) in
    (λ i. take (long i) (l.list-items ++ drop (length l.list-items) c.args.lists.now.items)) ∙ take-append_seam l.list-items _ ∙ all
