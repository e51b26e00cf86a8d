-- What one bulk lookup of many addresses returns: a lemma for `examples::batch`.
use Rattle.prefix_trie_tests.proofs.Prelude.{◌≡◌, ℕ, List, Option, map, take, ap, ◌∙◌, arith, option_map, take_all, map-map, length-digits, ipv4_address, longest_match}
use Rattle.prefix_trie.specs.Terms.{Entries, digits}

-- The values of the longest matches of addresses.
pub hops_of : {T : Type 0} (entries : Entries T) (addresses : List ℕ) (asked : List (ℕ × ℕ)) → asked ≡ map (λ addr. (addr, 32)) addresses → (answers : List (Option T))
    → answers ≡ map (λ p. option_map (λ route. route.1) (longest_match entries (take p.1 (digits 32 p.0)))) asked
    → answers ≡ map (λ addr. option_map (λ route. route.1) (longest_match entries (ipv4_address addr))) addresses
hops_of {T} entries addresses asked hosts answers is =
    is ∙ ap (map hop) hosts ∙ map-map hop (λ addr. (addr, 32)) addresses ∙ (λ i. map (λ addr. option_map (λ route. route.1) (longest_match entries (whole addr i))) addresses)
  where
    hop : ℕ × ℕ → Option T
    hop p = option_map (λ route. route.1) (longest_match entries (take p.1 (digits 32 p.0)))

    whole : (addr : ℕ) → take 32 (digits 32 addr) ≡ digits 32 addr
    whole addr = let long = length-digits 32 addr in take_all 32 (digits 32 addr) (omega (arith, long))
