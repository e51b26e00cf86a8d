-- The order of networks is the order in which a map lists them: for `network_order_laws`.
use Rattle.std.specs.Prelude.{◌≡◌, ℕ, ◌≤◌, Bool, List, length}
use Rattle.prefix_trie_bits.specs.Model.Order.{listing_cmp}
use Rattle.prefix_trie_bits.specs.Networks.{network_path, network_back, network_cmp, HasNoHostBits}

pub record FamilyOrderLaws (width : ℕ) : Type 0 where
  -- networks without host bits are ordered as a map lists them
  pub listing : (p q : ℕ × ℕ) → p.1 ≤ width → q.1 ≤ width → HasNoHostBits width p → HasNoHostBits width q
      → network_cmp p q ≡ listing_cmp (network_path width p) (network_path width q)
  -- so are the networks that a walk returns
  pub walked : (s t : List Bool) → length s ≤ width → length t ≤ width → network_cmp (network_back width s) (network_back width t) ≡ listing_cmp s t

pub record NetworkOrderLaws : Type 0 where
  pub ipv4 : FamilyOrderLaws 32
  pub ipv6 : FamilyOrderLaws 128
