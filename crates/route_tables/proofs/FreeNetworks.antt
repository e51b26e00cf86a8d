-- Networks that share no address with those of a table, by the addresses of a set: for `first_free`.
use Rattle.std.proofs.Common.{◌≡◌, ◌∙◌, ℕ, ◌-◌, ◌<◌, ◌≤◌, ◌^◌, Bool, true, false, true≢false, not, List, [], ◌∷◌, ◌++◌, is_some, length, ap, refl, sym, arith}
use Rattle.std.proofs.lemmas.List.{length-take-le}
use Rattle.prefix_trie.specs.Terms.{begins, digits, number, shortest_match, IsUncovered}
use Rattle.prefix_trie_bits.proofs.Model.Members.{of-key, some-key}
use Rattle.prefix_trie_bits.specs.BitStrings.{length-digits, number_of_digits}
use Rattle.prefix_trie_bits.specs.Laws.Matches.{MatchLaws}
use Rattle.prefix_trie_bits.specs.Model.Bits.{zeros}
use Rattle.prefix_trie_bits.specs.Networks.{network_back, network_path, HasNoHostBits}
use Rattle.address_ranges.specs.Breaks.{has_address}
use Rattle.address_ranges.specs.Networks.{first_address, IsFree as HasNone}
use Rattle.address_ranges.proofs.Addresses.{begins_within, within_begins}
use Rattle.address_ranges.proofs.Blocks.{past_within}
use Rattle.prefix_trie_joint.proofs.Families.{begins_apart, begins_apart_too, begins_ipv4, begins_ipv6}
use Rattle.prefix_trie_joint.specs.Networks.{HasNoIpHostBits}
use Rattle.prefix_trie_joint.specs.declared.prefix.IpPrefix.{IpPrefix}
use Rattle.prefix_trie_joint.specs.declared.prefix.IpPrefix.TheVariants.{V4, V6}
use Rattle.route_tables.specs.AddressLists.{AreCovered, is_in}
use Rattle.route_tables.specs.FreeNetworks.{first_ip, IsFirstFree, IsFree, IsFreeWithin}
use Rattle.route_tables.specs.Tables.{Values}
use Rattle.route_tables.proofs.Reading.AddressLists.{path_short}

no_address : (b : Bool) → not b ≡ true → b ≡ false
no_address true h = absurd (true≢false (sym h))
no_address false h = refl

not_true : (b : Bool) → (b ≡ true → ⊥) → b ≡ false
not_true true h = absurd (h refl)
not_true false h = refl

-- the set has the addresses of one family that networks of the table contain
module _ (laws : MatchLaws (List ℕ)) (m : Values) (family : Bool) (w : ℕ) (ns : List ℕ) (at : (q : List Bool) → length q ≡ w → has_address ns (number q) ≡ is_some (shortest_match m (family ∷ q))) where
  -- an address that it does not have is in no network
  uncovered : (q : List Bool) → length q ≡ w → has_address ns (number q) ≡ false → IsUncovered m (family ∷ q)
  uncovered q long none s has = not_true (begins s (family ∷ q)) (λ front. true≢false (sym (laws.some_shortest m (family ∷ q) ∙ of-key m (λ t. begins t (family ∷ q)) s has front) ∙ sym (at q long) ∙ none))

  -- and conversely
  missing : (q : List Bool) → length q ≡ w → IsUncovered m (family ∷ q) → has_address ns (number q) ≡ false
  missing q long none = not_true (has_address ns (number q)) (λ has.
      let (t, stored, front) = some-key m (λ t. begins t (family ∷ q)) (sym (laws.some_shortest m (family ∷ q)) ∙ sym (at q long) ∙ has) in
      true≢false (sym front ∙ none t stored))

  none_in : (s : List Bool) → HasNone w ns s → (q : List Bool) → length q ≡ w → begins s q ≡ true → IsUncovered m (family ∷ q)
  none_in s none q long front = let in_it = begins_within w s q long front in uncovered q long (no_address (has_address ns (number q)) (none (number q) in_it.0 in_it.1))

  has_none : (s : List Bool) → length s ≤ w → ((q : List Bool) → length q ≡ w → begins s q ≡ true → IsUncovered m (family ∷ q)) → HasNone w ns s
  has_none s short free n low high =
      let below : n < 2 ^ w = (let p = past_within w s short in omega (arith, p, high)) in
      let is = number_of_digits w n below in
      let long = length-digits w n in
      let front = within_begins w s (digits w n) long short (omega (arith, is, low)) (omega (arith, is, high)) in
      let out = missing (digits w n) long (free (digits w n) long front) in
      ap (λ k. not (has_address ns k)) (sym is) ∙ ap not out

-- the path of a network of a length that fits
long_path : (w len : ℕ) (network : ℕ × ℕ) → network.1 ≡ len → len ≤ w → length (network_path w network) ≡ len
long_path w len network is short = length-take-le network.1 (digits w network.0) (let d = length-digits w network.0 in omega (arith, d, is, short)) ∙ is

module _ (laws : MatchLaws (List ℕ)) (m : Values) (ipv4 ipv6 : List ℕ) (covered : AreCovered m (is_in (has_address ipv4) (has_address ipv6))) where
  at_ipv4 : (q : List Bool) → length q ≡ 32 → has_address ipv4 (number q) ≡ is_some (shortest_match m (false ∷ q))
  at_ipv4 q long = covered (false ∷ q) long

  at_ipv6 : (q : List Bool) → length q ≡ 128 → has_address ipv6 (number q) ≡ is_some (shortest_match m (true ∷ q))
  at_ipv6 q long = covered (true ∷ q) long

  free_ipv4 : (p : ℕ × ℕ) → HasNone 32 ipv4 (network_path 32 p) → IsFree m (V4 p)
  free_ipv4 p none [] at front = absurd at
  free_ipv4 p none (false ∷ q) at front = none_in laws m false 32 ipv4 at_ipv4 (network_path 32 p) none q at (sym (begins_ipv4 (network_path 32 p) q) ∙ front)
  free_ipv4 p none (true ∷ q) at front = absurd (true≢false (sym front ∙ begins_apart (network_path 32 p) q))

  free_ipv6 : (p : ℕ × ℕ) → HasNone 128 ipv6 (network_path 128 p) → IsFree m (V6 p)
  free_ipv6 p none [] at front = absurd at
  free_ipv6 p none (false ∷ q) at front = absurd (true≢false (sym front ∙ begins_apart_too (network_path 128 p) q))
  free_ipv6 p none (true ∷ q) at front = none_in laws m true 128 ipv6 at_ipv6 (network_path 128 p) none q at (sym (begins_ipv6 (network_path 128 p) q) ∙ front)

  none_ipv4 : (p : ℕ × ℕ) → IsFree m (V4 p) → HasNone 32 ipv4 (network_path 32 p)
  none_ipv4 p free = has_none laws m false 32 ipv4 at_ipv4 (network_path 32 p) (path_short 32 p) (λ q long front. free (false ∷ q) long (begins_ipv4 (network_path 32 p) q ∙ front))

  none_ipv6 : (p : ℕ × ℕ) → IsFree m (V6 p) → HasNone 128 ipv6 (network_path 128 p)
  none_ipv6 p free = has_none laws m true 128 ipv6 at_ipv6 (network_path 128 p) (path_short 128 p) (λ q long front. free (true ∷ q) long (begins_ipv6 (network_path 128 p) q ∙ front))

  module _ (len : ℕ) (within : ℕ × ℕ) where
    -- what each free network of IPv4 is, by the set
    pub among_ipv4 : len ≤ 32 → (X : List Bool → Type 0) → ((t : List Bool) → length t ≡ len → begins (network_path 32 within) t ≡ true → HasNone 32 ipv4 t → X t)
        → (other : ℕ × ℕ) → IsFreeWithin m len (V4 within) (V4 other) → X (network_path 32 other)
    among_ipv4 short X each other is = each (network_path 32 other) (long_path 32 len other is.long short) (sym (begins_ipv4 (network_path 32 within) (network_path 32 other)) ∙ is.inside) (none_ipv4 other is.free)

    pub among_ipv6 : len ≤ 128 → (X : List Bool → Type 0) → ((t : List Bool) → length t ≡ len → begins (network_path 128 within) t ≡ true → HasNone 128 ipv6 t → X t)
        → (other : ℕ × ℕ) → IsFreeWithin m len (V6 within) (V6 other) → X (network_path 128 other)
    among_ipv6 short X each other is = each (network_path 128 other) (long_path 128 len other is.long short) (sym (begins_ipv6 (network_path 128 within) (network_path 128 other)) ∙ is.inside) (none_ipv6 other is.free)

    pub none_free_ipv4 : len ≤ 32 → ((t : List Bool) → length t ≡ len → begins (network_path 32 within) t ≡ true → HasNone 32 ipv4 t → ⊥) → (network : IpPrefix) → IsFreeWithin m len (V4 within) network → ⊥
    none_free_ipv4 short none (V4 other) is = among_ipv4 short (λ _. ⊥) none other is
    none_free_ipv4 short none (V6 other) is = true≢false (sym is.inside ∙ begins_apart (network_path 32 within) (network_path 128 other))

    pub none_free_ipv6 : len ≤ 128 → ((t : List Bool) → length t ≡ len → begins (network_path 128 within) t ≡ true → HasNone 128 ipv6 t → ⊥) → (network : IpPrefix) → IsFreeWithin m len (V6 within) network → ⊥
    none_free_ipv6 short none (V4 other) is = true≢false (sym is.inside ∙ begins_apart_too (network_path 128 within) (network_path 32 other))
    none_free_ipv6 short none (V6 other) is = among_ipv6 short (λ _. ⊥) none other is

    pub first_of_ipv4 : len ≤ 32 → (p : ℕ × ℕ) → p.1 ≡ len → begins (network_path 32 within) (network_path 32 p) ≡ true → HasNone 32 ipv4 (network_path 32 p) → HasNoIpHostBits (V4 p)
        → ((t : List Bool) → length t ≡ len → begins (network_path 32 within) t ≡ true → HasNone 32 ipv4 t → first_address 32 (network_path 32 p) ≤ first_address 32 t) → IsFirstFree m len (V4 within) (V4 p)
    first_of_ipv4 short p long inside none bare least = record {
      is_free = record { long = long; inside = begins_ipv4 (network_path 32 within) (network_path 32 p) ∙ inside; free = free_ipv4 p none };
      bare = bare;
      first = first;
    }
      where
        first : (other : IpPrefix) → IsFreeWithin m len (V4 within) other → first_ip (V4 p) ≤ first_ip other
        first (V4 other) is = among_ipv4 short (λ t. first_address 32 (network_path 32 p) ≤ first_address 32 t) least other is
        first (V6 other) is = absurd (true≢false (sym is.inside ∙ begins_apart (network_path 32 within) (network_path 128 other)))

    pub first_of_ipv6 : len ≤ 128 → (p : ℕ × ℕ) → p.1 ≡ len → begins (network_path 128 within) (network_path 128 p) ≡ true → HasNone 128 ipv6 (network_path 128 p) → HasNoIpHostBits (V6 p)
        → ((t : List Bool) → length t ≡ len → begins (network_path 128 within) t ≡ true → HasNone 128 ipv6 t → first_address 128 (network_path 128 p) ≤ first_address 128 t) → IsFirstFree m len (V6 within) (V6 p)
    first_of_ipv6 short p long inside none bare least = record {
      is_free = record { long = long; inside = begins_ipv6 (network_path 128 within) (network_path 128 p) ∙ inside; free = free_ipv6 p none };
      bare = bare;
      first = first;
    }
      where
        first : (other : IpPrefix) → IsFreeWithin m len (V6 within) other → first_ip (V6 p) ≤ first_ip other
        first (V4 other) is = absurd (true≢false (sym is.inside ∙ begins_apart_too (network_path 128 within) (network_path 32 other)))
        first (V6 other) is = among_ipv6 short (λ t. first_address 128 (network_path 128 p) ≤ first_address 128 t) least other is

-- a network that its path gives back has the length of the path, and no host bits
pub bare_of : (w : ℕ) (p : ℕ × ℕ) (len : ℕ) → network_back w (network_path w p) ≡ p → length (network_path w p) ≡ len → (p.1 ≡ len) × HasNoHostBits w p
bare_of w p len is long = (
  sym (ap (λ n. n.1) is) ∙ long,
  sym (ap (λ n. n.0) is) ∙ ap (λ k. number (network_path w p ++ zeros (w - k))) (ap (λ n. n.1) is),
)
