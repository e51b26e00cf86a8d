-- The invariant of `calls_of`: the calls so far fit.
use Rattle.std.proofs.Common.{All}
use Rattle.prefix_trie.specs.Terms.{IsFittingCall}
use Rattle.prefix_trie_rows.proofs.run.calls_of.Given as goal

abbrev pub invariant-loop-line : goal.invariant-loop-line
invariant-loop-line g l = All (IsFittingCall g.P.Prefix.IsFitting) l.calls.items
