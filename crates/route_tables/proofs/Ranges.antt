-- When a text denotes no networks, and how the hyphen of a range splits it: for `parse_network_or_range`.
use Rattle.std.proofs.Common.{All, ◌≡◌, ◌<◌, ℕ, ◌+◌, ◌||◌, ◌^◌, suc, Bool, true, false, not, cond, List, [], ◌∷◌, length, map, refl, ◌∙◌, subst, arith, Result, IfErr}
use Rattle.std.specs.List.{list_any, position_or_len}
use Rattle.std.specs.Net.Grammar.{IsIpText}
use Rattle.std.specs.declared.net.ip_addr.IpAddr.{IpAddr}
use Rattle.std.proofs.NetLemmas.Theorems.{IsIpText_unique}
use Rattle.std.proofs.lemmas.Result.{IfErr-weaker}
use Rattle.prefix_trie_bits.specs.BitStrings.{number_of_digits}
use Rattle.prefix_trie_bits.specs.Networks.{network_back, network_path}
use Rattle.prefix_trie.specs.Terms.{digits, number}
use Rattle.address_ranges.specs.Networks.{AreFewest, is_between}
use Rattle.prefix_trie_joint.specs.declared.prefix.IpPrefix.{IpPrefix}
use Rattle.route_tables.specs.Networks.{AreFewestFor, AreOfEnds, AreOfRange}
use Rattle.route_tables.specs.Routes.{IfLine}
use Rattle.route_tables.specs.declared.line.ReadError.{ReadError}
use Rattle.route_tables.proofs.Reading.LineFields.{if_line}

-- an error that means that there are no networks of one kind means that there are none of another
pub none_along : {X : Type 0} (r : Result X ReadError) (A B : List IpPrefix → Type 0) → ((networks : List IpPrefix) → B networks → A networks)
    → IfErr r (IfLine ((networks : List IpPrefix) → ¬ (A networks))) → IfErr r (IfLine ((networks : List IpPrefix) → ¬ (B networks)))
none_along r A B back none = IfErr-weaker r _ _ (if_line _ _ (λ none networks has. none networks (back networks has))) none

-- two texts are those of at most one range
pub one_range : (before after : List ℕ) (first last : IpAddr) → IsIpText before first → IsIpText after last → (networks : List IpPrefix)
    → AreOfEnds before after networks → AreOfRange first last networks
one_range before after first last is_first is_last networks (a, b, is_a, is_b, are) =
    subst (λ x. AreOfRange x last networks) (IsIpText_unique before a first is_a is_first)
    (subst (λ y. AreOfRange a y networks) (IsIpText_unique after b last is_b is_last) are)

-- a byte occurs if its first position is inside
pub occurs : (p : ℕ → Bool) (bs : List ℕ) → position_or_len p bs < length bs → list_any p bs ≡ true
occurs p [] less = absurd (omega arith)
occurs p (b ∷ bs) less =
    elim (p b) as (λ v. cond (not v) (1 + position_or_len p bs) 0 < length (b ∷ bs) → (v || list_any p bs) ≡ true) [
      | true ↦ λ _. refl
      | false ↦ λ within. occurs p bs (omega arith)
    ] less

pub is_missing : (p : ℕ → Bool) (bs : List ℕ) → position_or_len p bs ≡ length bs → list_any p bs ≡ false
is_missing p [] whole = refl
is_missing p (b ∷ bs) whole =
    elim (p b) as (λ v. cond (not v) (1 + position_or_len p bs) 0 ≡ length (b ∷ bs) → (v || list_any p bs) ≡ false) [
      | true ↦ λ none. let e : 0 ≡ suc (length bs) = none in absurd (omega arith)
      | false ↦ λ all. is_missing p bs (omega arith)
    ] whole

-- networks that are the fewest for the digits of two numbers are those for the numbers
pub fewest_for : (width first last a b : ℕ) (networks : List (ℕ × ℕ)) → first ≡ a → last ≡ b → first < 2 ^ width → last < 2 ^ width
    → AreFewest width (is_between (number (digits width first)) (number (digits width last))) (map (network_path width) networks)
    → All (λ n. network_back width (network_path width n) ≡ n) networks → AreFewestFor width a b networks
fewest_for width first last a b networks is_first is_last first_fits last_fits fewest bare =
    let low = number_of_digits width first first_fits ∙ is_first in
    let high = number_of_digits width last last_fits ∙ is_last in (
      subst (λ n. AreFewest width (is_between a n) (map (network_path width) networks)) high
          (subst (λ n. AreFewest width (is_between n (number (digits width last))) (map (network_path width) networks)) low fewest),
      bare,
    )
