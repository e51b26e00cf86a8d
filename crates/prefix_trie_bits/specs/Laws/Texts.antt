-- What follows from the definitions of texts: what is written can be read back, and a text denotes
-- at most one network.
use Rattle.std.specs.Prelude.{◌≡◌, ℕ, ◌^◌, ◌<◌, ◌≤◌, List, Result, Ok, decimal}
use Rattle.prefix_trie_bits.specs.Texts.{ipv4_network_text, ipv6_network_text, ipv6_full_text, IsIpv4NetworkText, IsIpv6NetworkText, ParsesIpv4Network, ParsesIpv6Network, ParsesNarrow}
use Rattle.prefix_trie_bits.specs.declared.prefix.narrow.text.ParseNarrowError.{ParseNarrowError}
use Rattle.prefix_trie_bits.specs.declared.prefix.networks.text.ParseNetworkError.{ParseNetworkError}

-- networks with addresses of one width, which `Display` writes as `text_of` says
pub record FamilyTextLaws (width : ℕ) (text_of : ℕ × ℕ → List ℕ) (IsText : List ℕ → ℕ × ℕ → Type 0) (IsParsed : List ℕ → Result (ℕ × ℕ) ParseNetworkError → Type 0) : Type 0 where
  -- what `Display` writes of a network is a text of it
  pub is_text : (network : ℕ × ℕ) → network.0 < 2 ^ width → network.1 ≤ width → IsText (text_of network) network
  -- a text denotes at most one network
  pub at_most_one : (text : List ℕ) (p q : ℕ × ℕ) → IsText text p → IsText text q → p ≡ q
  -- `parse` reads back what `Display` wrote
  pub reads_back : (network : ℕ × ℕ) (r : Result (ℕ × ℕ) ParseNetworkError) → network.0 < 2 ^ width → network.1 ≤ width → IsParsed (text_of network) r → r ≡ Ok network

pub record TextLaws : Type 0 where
  pub ipv4 : FamilyTextLaws 32 ipv4_network_text IsIpv4NetworkText ParsesIpv4Network
  pub ipv6 : FamilyTextLaws 128 ipv6_network_text IsIpv6NetworkText ParsesIpv6Network
  -- an IPv4 network has one text, the one that `Display` writes
  pub ipv4_only : (text : List ℕ) (network : ℕ × ℕ) → IsIpv4NetworkText text network → text ≡ ipv4_network_text network
  -- what `Debug` writes of an IPv6 network is a text of it too
  pub ipv6_full : (network : ℕ × ℕ) → network.0 < 2 ^ 128 → network.1 ≤ 128 → IsIpv6NetworkText (ipv6_full_text network) network
  -- `parse` reads back what `Display` wrote of a number
  pub narrow : (width n : ℕ) (r : Result ℕ ParseNarrowError) → width ≤ 63 → n < 2 ^ width → ParsesNarrow width (decimal n) r → r ≡ Ok n
