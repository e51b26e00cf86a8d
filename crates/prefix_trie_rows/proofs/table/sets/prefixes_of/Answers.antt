-- A prefix is appended only if it fits, so all prefixes of the list fit.
use Rattle.std.proofs.Common.{All, sym, subst}
use Rattle.std.proofs.lemmas.List.Elements.{All-push}
use Rattle.prefix_trie_rows.proofs.table.sets.prefixes_of.Goals as goal

pub loop-pair-preserved : goal.loop-pair-preserved
loop-pair-preserved g c =
    subst (All g.P.Prefix.IsFitting) (sym c.in_ok-push-in-Some.ensures.items)
    (All-push g.P.Prefix.IsFitting c.loop-pair.prefixes.items c.in-Some.prefix c.loop-pair.invariant c.in-Some.ensures)
