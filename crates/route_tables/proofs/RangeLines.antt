-- The lines of ranges: for `print_ranges`.
use Rattle.std.proofs.Common.{◌≡◌, ◌∙◌, ◌^◌, ◌<◌, ◌++◌, ℕ, List, ap, codes, sym}
use Rattle.std.specs.Int.{w32, w128, to_be_bytes}
use Rattle.std.specs.Net.Addr.{segments_of, IsIpv4OfBits, IsIpv6OfBits}
use Rattle.std.specs.Net.Text.{ip_text, ipv4_text, ipv6_text}
use Rattle.std.specs.declared.net.ip_addr.IpAddr.TheVariants as Ip
use Rattle.std.specs.declared.net.ipv4_addr.Ipv4Addr.{Ipv4Addr}
use Rattle.std.specs.declared.net.ipv6_addr.Ipv6Addr.{Ipv6Addr}
use Rattle.std.specs.Net.Addr.{ipv4_octets, ipv6_segments}
use Rattle.prefix_trie_bits.specs.BitStrings.{number_of_digits}
use Rattle.prefix_trie_bits.specs.Model.Bits.{digits, number}
use Rattle.route_tables.specs.Printed.{ipv4_range_line, ipv6_range_line}

pub ipv4_range : (first last : ℕ) (a b : Ipv4Addr) → first < 2 ^ 32 → last < 2 ^ 32 → IsIpv4OfBits a first → IsIpv4OfBits b last
    → ip_text (Ip.V4 a) ++ codes "-" ++ ip_text (Ip.V4 b) ++ codes "\n" ≡ ipv4_range_line (number (digits 32 first), number (digits 32 last))
unfolding IsIpv4OfBits
ipv4_range first last a b f l e g =
    let x : ipv4_octets a ≡ to_be_bytes w32 (number (digits 32 first)) = e ∙ ap (to_be_bytes w32) (sym (number_of_digits 32 first f)) in
    let y : ipv4_octets b ≡ to_be_bytes w32 (number (digits 32 last)) = g ∙ ap (to_be_bytes w32) (sym (number_of_digits 32 last l)) in
    ap (λ (o : List ℕ). ipv4_text o ++ codes "-" ++ ipv4_text (ipv4_octets b) ++ codes "\n") x ∙ ap (λ (o : List ℕ). ipv4_text (to_be_bytes w32 (number (digits 32 first))) ++ codes "-" ++ ipv4_text o ++ codes "\n") y

pub ipv6_range : (first last : ℕ) (a b : Ipv6Addr) → first < 2 ^ 128 → last < 2 ^ 128 → IsIpv6OfBits a first → IsIpv6OfBits b last
    → ip_text (Ip.V6 a) ++ codes "-" ++ ip_text (Ip.V6 b) ++ codes "\n" ≡ ipv6_range_line (number (digits 128 first), number (digits 128 last))
unfolding IsIpv6OfBits
ipv6_range first last a b f l e g =
    let x : ipv6_segments a ≡ segments_of (to_be_bytes w128 (number (digits 128 first))) = e ∙ ap (λ (n : ℕ). segments_of (to_be_bytes w128 n)) (sym (number_of_digits 128 first f)) in
    let y : ipv6_segments b ≡ segments_of (to_be_bytes w128 (number (digits 128 last))) = g ∙ ap (λ (n : ℕ). segments_of (to_be_bytes w128 n)) (sym (number_of_digits 128 last l)) in
    ap (λ (o : List ℕ). ipv6_text o ++ codes "-" ++ ipv6_text (ipv6_segments b) ++ codes "\n") x ∙ ap (λ (o : List ℕ). ipv6_text (segments_of (to_be_bytes w128 (number (digits 128 first)))) ++ codes "-" ++ ipv6_text o ++ codes "\n") y
