-- The loop that copies the entries: the copied ones and those still to come are the listing.
use Rattle.std.proofs.Common.{◌∙◌, ◌++◌, [], ◌∷◌, All, ap, append-nil, subst, sym}
use Rattle.std.proofs.lemmas.List.{append_assoc}
use Rattle.prefix_trie_ops.proofs.map.optimal.entries.copied.Goals as goal

pub loop-prefix-init : goal.loop-prefix-init
loop-prefix-init g c = (
  tt,
  tt,
  ap (λ es. es ++ c.into_iter-prefix-iterator.result) c.in_ok-entries.ensures.items ∙ c.into_iter-prefix-iterator.ensures.into_iter_gives ∙ c.iter-prefix-items.ensures.items,
)

pub loop-prefix-preserved : goal.loop-prefix-preserved
loop-prefix-preserved g c = (
  tt,
  tt,
  ap (λ es. es ++ c.next.new.self) c.in_ok-push.ensures.items
      ∙ append_assoc c.loop-prefix.entries.items ((c.in-Some.prefix, c.in-Some.value.now) ∷ []) c.next.new.self
      ∙ ap (λ es. c.loop-prefix.entries.items ++ es) (sym c.in-Some.ensures.steps) ∙ c.loop-prefix.invariant.2,
)

pub returns-clause-items : goal.returns-clause-items
returns-clause-items g c = sym (append-nil c.loop-prefix.entries.items) ∙ ap (λ es. c.loop-prefix.entries.items ++ es) (sym c.in-None.ensures.steps.0) ∙ c.loop-prefix.invariant.2

pub returns-clause-fit : goal.returns-clause-fit
returns-clause-fit g c =
    let all = sym (append-nil c.loop-prefix.entries.items) ∙ ap (λ es. c.loop-prefix.entries.items ++ es) (sym c.in-None.ensures.steps.0) ∙ c.loop-prefix.invariant.2 in
    subst (All (λ e. g.P.Prefix.IsFitting e.0)) (sym all) (c.listed_laws.ensures.listed_fit c.args.table.now.entries c.iter-prefix-items.ensures.whole.is_map.keys_within)
