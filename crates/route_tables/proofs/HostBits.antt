-- A network has no host bits exactly if its address is its first bits and then zeros: for `refuse_host_bits`.
use Rattle.std.proofs.Common.{◌≡◌, ℕ, ◌-◌, ◌^◌, ◌<◌, ◌++◌, take, sym, ap, ◌∙◌}
use Rattle.prefix_trie_bits.specs.BitStrings.{number_of_digits}
use Rattle.prefix_trie.specs.Terms.{digits, lowest_address, number, zeros}
use Rattle.prefix_trie_joint.specs.Networks.{lowest_ip}
use Rattle.prefix_trie_joint.specs.declared.prefix.IpPrefix.{IpPrefix}
use Rattle.prefix_trie_joint.specs.declared.prefix.IpPrefix.TheVariants.{V4, V6}

-- the number of its first bits and then zeros is the lowest address
lowest_is : (width : ℕ) (p : ℕ × ℕ) (mask : ℕ) → mask < 2 ^ width → digits width mask ≡ take p.1 (digits width p.0) ++ zeros (width - p.1) → lowest_address width p ≡ mask
lowest_is width p mask less bits = sym (ap number bits) ∙ number_of_digits width mask less

abbrev bits_of : IpPrefix → ℕ
bits_of (V4 network) = network.0
bits_of (V6 network) = network.0

pub lowest_ipv4 : (p : ℕ × ℕ) (mask : ℕ) → mask < 2 ^ 32 → digits 32 mask ≡ take p.1 (digits 32 p.0) ++ zeros (32 - p.1) → p.0 ≡ mask → V4 p ≡ lowest_ip (V4 p)
lowest_ipv4 p mask less bits is = ap (λ n. V4 (n, p.1)) (is ∙ sym (lowest_is 32 p mask less bits))

pub of_lowest_ipv4 : (p : ℕ × ℕ) (mask : ℕ) → mask < 2 ^ 32 → digits 32 mask ≡ take p.1 (digits 32 p.0) ++ zeros (32 - p.1) → V4 p ≡ lowest_ip (V4 p) → p.0 ≡ mask
of_lowest_ipv4 p mask less bits is = ap bits_of is ∙ lowest_is 32 p mask less bits

pub lowest_ipv6 : (p : ℕ × ℕ) (mask : ℕ) → mask < 2 ^ 128 → digits 128 mask ≡ take p.1 (digits 128 p.0) ++ zeros (128 - p.1) → p.0 ≡ mask → V6 p ≡ lowest_ip (V6 p)
lowest_ipv6 p mask less bits is = ap (λ n. V6 (n, p.1)) (is ∙ sym (lowest_is 128 p mask less bits))

pub of_lowest_ipv6 : (p : ℕ × ℕ) (mask : ℕ) → mask < 2 ^ 128 → digits 128 mask ≡ take p.1 (digits 128 p.0) ++ zeros (128 - p.1) → V6 p ≡ lowest_ip (V6 p) → p.0 ≡ mask
of_lowest_ipv6 p mask less bits is = ap bits_of is ∙ lowest_is 128 p mask less bits
