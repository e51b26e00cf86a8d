-- The reply has the number of addresses that `address_count` returns.
use Rattle.prefix_trie.proofs.Prelude.{rules}
use Rattle.prefix_trie.proofs.replay.count_addresses.Goals as goal

pub returns : goal.returns
returns g c = search rules
