-- Each call that is made from a draw fits, so all calls of the run do.
use Rattle.prefix_trie_tests.proofs.Prelude.{All, sym, subst, All-push, IsFittingCall}
use Rattle.prefix_trie_tests.proofs.runs.mixed.calls_of.Goals as goal

pub loop-draw-preserved : goal.loop-draw-preserved
loop-draw-preserved g c =
    subst (All (IsFittingCall g.P.Prefix.IsFitting)) (sym c.in_ok-push.ensures.items)
    (All-push (IsFittingCall g.P.Prefix.IsFitting) c.loop-draw.calls.items _ c.loop-draw.invariant c.call_of.ensures)
