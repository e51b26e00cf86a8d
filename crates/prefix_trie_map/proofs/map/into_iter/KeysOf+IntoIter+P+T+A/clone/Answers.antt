-- The clone of a walk over keys has the same keys to come, since cloning changes values only.
use Rattle.prefix_trie_map.proofs.Prelude.{◌∙◌}
use Rattle.prefix_trie_map.proofs.Clones.{keys_cloned}
use Rattle.prefix_trie_map.proofs.map.into_iter.KeysOf+IntoIter+P+T+A.clone.Goals as goal

pub returns : goal.returns
returns g c =
    c.new.ensures ∙ keys_cloned g.T.Clone.is_clone c.self.inside.inner c.in_ok-inner.inner c.in_ok-inner.ensures.items ∙ c.self.view_is
