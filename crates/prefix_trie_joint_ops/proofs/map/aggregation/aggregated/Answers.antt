-- A smallest map of each family is a smallest joint map, with the same answers to addresses.
use Rattle.std.proofs.Common.{ap₂, inl, inr}
use Rattle.std.proofs.lemmas.Result.{err_from_is_err_and}
use Rattle.prefix_trie_joint_ops.proofs.Least.{none_redundant, same_answers, smallest}
use Rattle.prefix_trie_joint_ops.proofs.map.aggregation.aggregated.Goals as goal

pub returns-clause-values : goal.returns-clause-values
returns-clause-values g c exact = same_answers _ _ _ _ (c.in_ok-ipv4.ensures.values exact) (c.in_ok-ipv6.ensures.values exact)

pub returns-clause-smallest : goal.returns-clause-smallest
returns-clause-smallest g c exact = smallest _ _ (c.in_ok-ipv4.ensures.smallest exact) (c.in_ok-ipv6.ensures.smallest exact)

pub returns-clause-none_redundant : goal.returns-clause-none_redundant
returns-clause-none_redundant g c exact = none_redundant _ _ g.T.PartialEq.eq (c.in_ok-ipv4.ensures.none_redundant exact) (c.in_ok-ipv6.ensures.none_redundant exact)

pub returns-in_err-ipv4-clause-range : goal.returns-in_err-ipv4-clause-range
returns-in_err-ipv4-clause-range g c =
    let p = err_from_is_err_and c.from_residual.result c.from_residual.ensures.1 in
    rw (p.1, p.2) (λ range exact. inl (c.in_err-ipv4.ensures.range range exact))

pub returns-in_err-ipv6-clause-range : goal.returns-in_err-ipv6-clause-range
returns-in_err-ipv6-clause-range g c =
    let p = err_from_is_err_and c.from_residual-in_err-ipv6.result c.from_residual-in_err-ipv6.ensures.1 in
    rw (p.1, p.2) (λ range exact. inr (c.in_err-ipv6.ensures.range range exact))

pub returns-clause-limit : goal.returns-clause-limit
returns-clause-limit g c = ap₂ (λ a b. (a, b)) c.in_ok-ipv4.ensures.limit c.in_ok-ipv6.ensures.limit
