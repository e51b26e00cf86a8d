-- The invariant of `calls_of`: the calls made from the draws so far fit.
use Rattle.prefix_trie_tests.proofs.Prelude.{All, IsFittingCall}
use Rattle.prefix_trie_tests.proofs.runs.mixed.calls_of.Given as goal

abbrev pub invariant-loop-draw : goal.invariant-loop-draw
invariant-loop-draw g l = All (IsFittingCall g.P.Prefix.IsFitting) l.calls.items
