-- The covers of a prefix in a set are the keys of its covers in the map.
use Rattle.prefix_trie.proofs.set.PrefixSet.cover.Goals as goal

pub returns : goal.returns
returns g c = rw (← c.self.view_is) c.cover_keys.ensures
