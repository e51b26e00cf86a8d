-- A longer path is that of a longer prefix: for the VRP that makes a route invalid.
use Rattle.std.proofs.Common.{◌≡◌, ℕ, ◌+◌, ◌≤◌, length, sym, subst, arith}
use Rattle.std.proofs.lemmas.List.{length-take-le}
use Rattle.prefix_trie.specs.Terms.{network_path}
use Rattle.prefix_trie_bits.specs.BitStrings.{length-digits}
use Rattle.prefix_trie_bits.specs.Model.Bits.{digits}
use Rattle.prefix_trie_joint.specs.Networks.{ip_len, ip_path}
use Rattle.prefix_trie_joint.specs.Texts.{IsIp}
use Rattle.prefix_trie_joint.specs.declared.prefix.IpPrefix.{IpPrefix}
use Rattle.prefix_trie_joint.specs.declared.prefix.IpPrefix.TheVariants.{V4, V6}

path_length : (width : ℕ) (network : ℕ × ℕ) → network.1 ≤ width → length (network_path width network) ≡ network.1
path_length width network fits = length-take-le network.1 (digits width network.0) (subst (λ n. network.1 ≤ n) (sym (length-digits width network.0)) fits)

-- the path has a bit for the family and one for each bit of the prefix
pub length_is : (prefix : IpPrefix) → IsIp prefix → length (ip_path prefix) ≡ ip_len prefix + 1
length_is (V4 network) fits = let h = path_length 32 network fits.1 in omega (arith, h)
length_is (V6 network) fits = let h = path_length 128 network fits.1 in omega (arith, h)
