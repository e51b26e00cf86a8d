-- The clone of a walk has the same networks to come, with cloned values.
use Rattle.std.proofs.Common.{◌∙◌, ap₂}
use Rattle.prefix_trie_joint.specs.Joined.{both}
use Rattle.prefix_trie_joint.proofs.Walks.{both_cloned}
use Rattle.prefix_trie_joint.proofs.map.into_iter.IntoIter.clone.Goals as goal

pub returns-clause-items : goal.returns-clause-items
returns-clause-items g c =
    rw (← c.self.view_is) (both_cloned g.T.Clone.is_clone c.self.inside.ipv4 c.self.inside.ipv6 c.in_ok-ipv4.ipv4 c.in_ok-ipv6.ipv6 c.in_ok-ipv4.ensures.items c.in_ok-ipv6.ensures.items)

pub returns-clause-same : goal.returns-clause-same
returns-clause-same g c = λ law. ap₂ both (c.in_ok-ipv4.ensures.same law) (c.in_ok-ipv6.ensures.same law) ∙ c.self.view_is
