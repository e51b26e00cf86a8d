-- The path of a host network is its address, so its covers are the denied networks that contain the address.
use Rattle.prefix_trie_tests.proofs.Prelude.{rules, ◌≡◌, List, Bool, map, subst, covers, ipv4_back}
use Rattle.std.specs.Result.{IfOk}
use Rattle.prefix_trie_tests.proofs.examples.access.reasons.Goals as goal

pub returns : goal.returns
returns g c =
    subst (λ q. IfOk c.collect.result (λ networks. networks.items ≡ map (λ (e : List Bool × Unit {0}). ipv4_back e.0) (covers c.args.denied.now.entries q))) c.host.ensures.path (search rules)
