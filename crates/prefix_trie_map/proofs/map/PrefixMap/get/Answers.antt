-- The value that `get` returns is the first part of the result of `get_counted`.
use Rattle.prefix_trie_map.proofs.map.PrefixMap.get.Goals as goal

pub returns : goal.returns
returns g c = c.get_counted.ensures.value
