-- A smallest set of each family is a smallest joint set, which covers the same addresses.
use Rattle.std.proofs.Common.{ap₂, inl, inr}
use Rattle.std.proofs.lemmas.Result.{err_from_is_err_and}
use Rattle.prefix_trie_joint_ops.proofs.Least.{no_siblings, none_covered, same_addresses, smallest_cover}
use Rattle.prefix_trie_joint_ops.proofs.set.aggregation.aggregated.Goals as goal

pub returns-clause-addresses : goal.returns-clause-addresses
returns-clause-addresses g c = same_addresses _ _ _ _ c.in_ok-ipv4.ensures.addresses c.in_ok-ipv6.ensures.addresses

pub returns-clause-smallest : goal.returns-clause-smallest
returns-clause-smallest g c = smallest_cover _ _ c.in_ok-ipv4.ensures.smallest c.in_ok-ipv6.ensures.smallest

pub returns-clause-uncovered : goal.returns-clause-uncovered
returns-clause-uncovered g c = none_covered _ _ c.in_ok-ipv4.ensures.uncovered c.in_ok-ipv6.ensures.uncovered

pub returns-clause-no_siblings : goal.returns-clause-no_siblings
returns-clause-no_siblings g c = no_siblings _ _ c.in_ok-ipv4.ensures.no_siblings c.in_ok-ipv6.ensures.no_siblings

pub returns-in_err-ipv4-clause-range : goal.returns-in_err-ipv4-clause-range
returns-in_err-ipv4-clause-range g c =
    let p = err_from_is_err_and c.from_residual.result c.from_residual.ensures.1 in
    rw (p.1, p.2) (λ range. inl (c.in_err-ipv4.ensures.range range))

pub returns-in_err-ipv6-clause-range : goal.returns-in_err-ipv6-clause-range
returns-in_err-ipv6-clause-range g c =
    let p = err_from_is_err_and c.from_residual-in_err-ipv6.result c.from_residual-in_err-ipv6.ensures.1 in
    rw (p.1, p.2) (λ range. inr (c.in_err-ipv6.ensures.range range))

pub returns-clause-limit : goal.returns-clause-limit
returns-clause-limit g c = ap₂ (λ a b. (a, b)) c.in_ok-ipv4.ensures.limit c.in_ok-ipv6.ensures.limit
