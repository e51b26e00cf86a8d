-- A step at the last spot changes that spot alone: the stack is the spots below it and the spot, before and after.
use Rattle.prefix_trie_table.proofs.Prelude.{◌≡◌, ◌-◌, ◌++◌, length, take, drop, get_or, set, sym, ap, subst, ◌∙◌, length-set, take-append_seam}
use Rattle.prefix_trie_table.specs.Walking.Combined.{IsCombinedSpot, CombinedSteps, combined_depth}
use Rattle.prefix_trie_table.proofs.Walk.Levels.{ends_in, levels-at, written}
use Rattle.prefix_trie_table.proofs.table.combined.next_at_last_both.Goals as goal

pub next_at_both-requires-clause-spot : goal.next_at_both-requires-clause-spot
next_at_both-requires-clause-spot g c =
    let is = ends_in c.args.stack.now.items c.len-last.result c.len-last.ensures.value c.requires.some in
    let same = c.index-deref_mut-last.is ∙ ap (λ xs. get_or xs (c.len-last.result - 1) c.index-deref_mut-last.result) c.deref_mut.ensures.value in
    subst (IsCombinedSpot g.K.Key.bit_width c.args.left.now.slots c.args.right.now.slots c.args.combination (g.K.Key.bits c.args.key)) c.index-deref_mut-last.is
    (levels-at combined_depth (IsCombinedSpot g.K.Key.bit_width c.args.left.now.slots c.args.right.now.slots c.args.combination (g.K.Key.bits c.args.key)) 0 _ _ _ (is c.index-deref_mut-last.result same) c.requires.stack).2

pub returns : goal.returns
returns g c =
    let all = c.args.stack.now.items in
    let n = c.len-last.result in
    let counts = c.len-last.ensures.value in
    let value = c.deref_mut.ensures.value in
    let same = c.index-deref_mut-last.is ∙ ap (λ xs. get_or xs (n - 1) c.index-deref_mut-last.result) value in
    let next = c.next_at_both.new.at in
    let ws = set c.deref_mut.result.now (n - 1) next in
    let full : length all ≡ length ws = sym (length-set c.deref_mut.result.now (n - 1) next ∙ ap length value) in
    let refilled : take (length all) (ws ++ drop (length ws) all) ≡ ws = ap (λ k. take k (ws ++ drop (length ws) all)) full ∙ take-append_seam ws (drop (length ws) all) in (
      take (n - 1) all,
      c.index-deref_mut-last.result,
      next,
      ends_in all n counts c.requires.some c.index-deref_mut-last.result same,
      refilled ∙ ap (λ xs. set xs (n - 1) next) value ∙ written all n counts c.requires.some next,
      subst (λ p. CombinedSteps g.row.X.Denot g.K.Key.IsKey g.K.Key.bits g.K.Key.bit_width c.args.left.now.slots c.args.right.now.slots c.args.combination (g.K.Key.bits c.args.key) p c.next_at_both.result next)
          (sym c.index-deref_mut-last.is) c.next_at_both.ensures,
    )
