-- If a clone of a value is that value, both maps are copied as they are.
use Rattle.std.proofs.Common.{ap₂}
use Rattle.prefix_trie_joint.proofs.map.JointPrefixMap.clone.Goals as goal

pub returns-clause-same : goal.returns-clause-same
returns-clause-same g c = λ h. ap₂ (λ a b. record { ipv4 = a; ipv6 = b }) (c.in_ok-ipv4.ensures.same h) (c.in_ok-ipv6.ensures.same h)
