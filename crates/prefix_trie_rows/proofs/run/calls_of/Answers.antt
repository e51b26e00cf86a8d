-- A call is appended only if it fits, so all calls of the list fit.
use Rattle.std.proofs.Common.{All, sym, subst}
use Rattle.std.proofs.lemmas.List.Elements.{All-push}
use Rattle.prefix_trie.specs.Terms.{IsFittingCall}
use Rattle.prefix_trie_rows.proofs.run.calls_of.Goals as goal

pub loop-line-preserved : goal.loop-line-preserved
loop-line-preserved g c =
    subst (All (IsFittingCall g.P.Prefix.IsFitting)) (sym c.in_ok-push-in-Some.ensures.items)
    (All-push (IsFittingCall g.P.Prefix.IsFitting) c.loop-line.calls.items c.in-Some.call c.loop-line.invariant c.in-Some.ensures)
