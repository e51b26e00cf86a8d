-- The loop skips the entries that do not pass the test, which changes nothing in the filtered walk.
use Rattle.std.proofs.Common.{◌∙◌, All, ap, subst, sym}
use Rattle.std.proofs.lemmas.List.Elements.{All-head, All-rest}
use Rattle.prefix_trie_ops.proofs.Lists.{filter_skips}
use Rattle.prefix_trie_ops.proofs.select.next_entry.Goals as goal

pub passes-requires : goal.passes-requires
passes-requires g c =
    All-head (λ e. g.P.Prefix.IsFitting e.0) (c.in-Some.prefix, c.in-Some.value.now) c.next.new.self
    (subst (All (λ e. g.P.Prefix.IsFitting e.0)) c.in-Some.ensures.steps c.loop-prefix.invariant.4)

pub returns-then-passes-clause-fit : goal.returns-then-passes-clause-fit
returns-then-passes-clause-fit g c =
    All-rest (λ e. g.P.Prefix.IsFitting e.0) (c.in-Some.prefix, c.in-Some.value.now) c.next.new.self c.loop-prefix.entries c.in-Some.ensures.steps c.loop-prefix.invariant.4

pub loop-prefix-preserved : goal.loop-prefix-preserved
loop-prefix-preserved g c =
    let test = g.F.PathTest.outcome in
    let path = g.P.Prefix.path in (
      tt,
      tt,
      c.passes.ensures.same ∙ c.loop-prefix.invariant.2,
      filter_skips (λ e. test c.args.test.now (path e.0)) c.loop-prefix.entries c.next.new.self (c.in-Some.prefix, c.in-Some.value.now) c.in-Some.ensures.steps
          (sym (ap (λ f. f (path c.in-Some.prefix)) c.loop-prefix.invariant.2) ∙ sym c.passes.ensures.decides ∙ c.if-passes.false) ∙ c.loop-prefix.invariant.3,
      All-rest (λ e. g.P.Prefix.IsFitting e.0) (c.in-Some.prefix, c.in-Some.value.now) c.next.new.self c.loop-prefix.entries c.in-Some.ensures.steps c.loop-prefix.invariant.4,
    )
