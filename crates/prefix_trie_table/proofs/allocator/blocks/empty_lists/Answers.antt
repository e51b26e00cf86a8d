-- After the loop there is one empty free list for each size, in the order of the sizes.
use Rattle.prefix_trie_table.proofs.Prelude.{◌++◌, ◌∷◌, [], map, sym, ap, ◌∙◌, take_all, no_blocks}
use Rattle.std.proofs.lemmas.List.{map_more}
use Rattle.prefix_trie_table.proofs.allocator.blocks.empty_lists.Goals as goal

pub loop-size-preserved : goal.loop-size-preserved
loop-size-preserved g c =
    let l = c.loop-size in
    c.in_ok-push.ensures.items ∙ (λ i. l.invariant i ++ c.new.ensures i ∷ []) ∙ sym (map_more no_blocks c.args.sizes.now l.size-index 0 c.loop-size-test.true)

pub returns : goal.returns
returns g c = c.loop-size.invariant ∙ ap (map no_blocks) (take_all c.loop-size.size-index c.args.sizes.now c.loop-size-test.false)
