-- The first entry to come is stored at its network.
use Rattle.std.proofs.Common.{Some}
use Rattle.prefix_trie_joint.specs.Joined.{entries_of}
use Rattle.prefix_trie_joint.specs.Networks.{ip_path}
use Rattle.prefix_trie_joint.proofs.Writing.{first_stored}
use Rattle.prefix_trie_joint.proofs.map.writing.ValuesMut.step.Goals as goal

pub returns-clause-stored : goal.returns-clause-stored
returns-clause-stored g c =
    let w = c.args.self.now in
    first_stored (entries_of w.map.now) c.known_keys.ensures w.inclusive (ip_path w.from) (Some c.in_ok-network.network) c.in_ok-network.ensures
