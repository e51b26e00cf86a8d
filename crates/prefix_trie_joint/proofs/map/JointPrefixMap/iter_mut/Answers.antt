-- All entries are to come from the network 0.0.0.0/0 on.
use Rattle.std.proofs.Common.{ℕ, false, ◌∷◌, ap, ◌∙◌}
use Rattle.prefix_trie.specs.Terms.{listing_from}
use Rattle.prefix_trie_bits.specs.Networks.{network_path}
use Rattle.prefix_trie_joint.specs.Joined.{entries_of}
use Rattle.prefix_trie_joint.proofs.Writing.{from_start}
use Rattle.prefix_trie_joint.proofs.map.JointPrefixMap.iter_mut.Goals as goal

pub returns-clause-items : goal.returns-clause-items
returns-clause-items g c =
    ap (λ (p : ℕ × ℕ). listing_from (entries_of c.args.self.now) (false ∷ network_path 32 p)) c.from_repr_len.ensures
    ∙ from_start c.args.self.now.ipv4.entries c.args.self.now.ipv6.entries
