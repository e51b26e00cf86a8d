-- The clone of a walk has the same prefixes to come, with cloned values.
use Rattle.prefix_trie_map.proofs.Prelude.{◌∙◌, ap, prefix_pairs}
use Rattle.prefix_trie_map.proofs.Clones.{shown_cloned}
use Rattle.prefix_trie_map.proofs.map.into_iter.IntoIter.clone.Goals as goal

pub returns-clause-items : goal.returns-clause-items
returns-clause-items g c =
    rw (← c.self.view_is) (shown_cloned g.T.Clone.is_clone g.P.Prefix.back c.self.inside.walk c.in_ok-walk.walk c.in_ok-walk.ensures.pairs)

pub returns-clause-same : goal.returns-clause-same
returns-clause-same g c = λ law. ap (prefix_pairs g.P.Prefix.back) (c.in_ok-walk.ensures.same law) ∙ c.self.view_is
