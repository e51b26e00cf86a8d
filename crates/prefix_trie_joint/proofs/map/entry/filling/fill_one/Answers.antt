-- The map of one family is as its entry says.
use Rattle.std.proofs.Common.{sym, subst}
use Rattle.prefix_trie_joint.specs.Entry.{RefusesAt}
use Rattle.prefix_trie_joint.proofs.Filled.{at_err, refuses_at}
use Rattle.prefix_trie_joint.proofs.map.entry.filling.fill_one.Goals as goal

pub returns-in-Err-clause-refused : goal.returns-in-Err-clause-refused
returns-in-Err-clause-refused g c =
    let h = at_err c.or_insert.result c.in-Err.refused _ c.in-Err.is c.or_insert.follows.holds-at-none in
    subst (λ n. RefusesAt g.P.R.Key.bit_width (g.P.Prefix.path c.args.prefix) c.in-Err.refused.cause c.args.map.now n) (sym (c.map-in-Err-2.given.1 (sym c.entry.ensures.same_map)))
    (refuses_at _ _ _ c.or_insert.follows.lender-at-none _ _ c.entry.ensures.unchanged c.entry.ensures.path _ h.entries h.step)
