-- The clone of a walk over values has clones of the values to come.
use Rattle.std.proofs.Common.{◌∙◌, map, ap}
use Rattle.prefix_trie_map.proofs.Clones.{values_cloned}
use Rattle.prefix_trie_joint.proofs.map.into_iter.IntoValues.clone.Goals as goal

pub returns-clause-items : goal.returns-clause-items
returns-clause-items g c =
    rw (← c.self.view_is) (values_cloned g.T.Clone.is_clone c.self.inside.inner c.in_ok-inner.inner c.in_ok-inner.ensures.items)

pub returns-clause-same : goal.returns-clause-same
returns-clause-same g c = λ law. ap (map (λ e. e.1)) (c.in_ok-inner.ensures.same law) ∙ c.self.view_is
