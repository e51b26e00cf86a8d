-- All calls that `calls_of` returns fit, as `run` requires.
use Rattle.std.proofs.Common.{All, IfSome, sym, subst}
use Rattle.prefix_trie.specs.Terms.{IsFittingCall}
use Rattle.prefix_trie_rows.proofs.run.reply_in_order.Goals as goal

pub run-requires : goal.run-requires
run-requires g c =
    subst (All (IsFittingCall g.P.Prefix.IsFitting)) (sym c.deref.ensures.value)
    (subst (λ answer. IfSome answer (λ calls. All (IsFittingCall g.P.Prefix.IsFitting) calls.items)) c.in-Some.is c.in_ok-calls.ensures)
