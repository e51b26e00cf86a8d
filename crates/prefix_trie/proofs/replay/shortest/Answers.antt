-- The shortest match is the map's.
use Rattle.prefix_trie.proofs.Prelude.{rules}
use Rattle.prefix_trie.proofs.replay.shortest.Goals as goal

pub returns-clause-reply : goal.returns-clause-reply
returns-clause-reply g c = search rules
