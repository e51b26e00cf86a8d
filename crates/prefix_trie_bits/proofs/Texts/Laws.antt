-- A text that is written is read back as the same network, since a text is that of at most one network: for
-- `text_laws`.
use Rattle.std.proofs.Common.{◌≡◌, ℕ, ◌^◌, ◌<◌, ◌≤◌, List, Result, Ok, refl, sym, ap, ◌∙◌, subst, arith, zero, suc, [], ◌∷◌, get_or, ◌++◌, decimal}
use Rattle.std.proofs.lemmas.Fmt.{decimal_injective}
use Rattle.std.proofs.lemmas.Nat.{be_bytes_4}
use Rattle.std.specs.Int.{from_be_bytes, w32, w128, to_be_bytes}
use Rattle.std.specs.Net.Addr.{ipv4_octets, ipv4_bits, ipv6_segments, ipv6_bits, segments_of}
use Rattle.std.specs.Net.Text.{ipv4_text, ipv6_text}
use Rattle.std.specs.Net.Grammar.{IsIpv4Text, IsIpv6Text}
use Rattle.std.proofs.NetLemmas.Texts.{IsDotted-ipv4_text, IsColonHex-ipv6_text}
use Rattle.std.proofs.NetLemmas.Theorems.{IsIpv4Text_unique, IsIpv6Text_unique, Parses_gives}
use Rattle.prefix_trie_bits.specs.declared.prefix.narrow.text.ParseNarrowError.{ParseNarrowError}
use Rattle.prefix_trie_bits.specs.Texts.{IsIpv4NetworkText, IsNetworkText, IsNarrowText, full_groups, ParsesNetwork, ParsesNarrow, ipv4_network_text, ipv6_network_text}
use Rattle.prefix_trie_bits.specs.Laws.Texts.{FamilyTextLaws, TextLaws}
use Rattle.prefix_trie_bits.proofs.Texts.Bytes.{bytes-below, segments-below, bits_of_ipv4, bits_of_ipv6}
use Rattle.prefix_trie_bits.proofs.Texts.Decimals.{narrow_fits}
use Rattle.prefix_trie_bits.proofs.Texts.FullGroups.{IsColonHex-full_groups}
use Rattle.prefix_trie_bits.proofs.Texts.Slashes.{Free, Free-dotted, Free-colon_hex, same_cut}
use Rattle.prefix_trie_bits.proofs.Texts.ParseResults.{spelled}

module _ {A : Type 0} (Spells : List ℕ → A → Type 0) (bits : A → ℕ) (width : ℕ) (free : (front : List ℕ) (a : A) → Spells front a → Free front) (unique : (front : List ℕ) (a b : A) → Spells front a → Spells front b → a ≡ b) (small : width < 256) where
  at_most_one : (text : List ℕ) (p q : ℕ × ℕ) → IsNetworkText Spells bits width text p → IsNetworkText Spells bits width text q → p ≡ q
  at_most_one text p q h k =
      let (front, back) = same_cut _ _ _ _ (free _ _ h.spells) (free _ _ k.spells) (sym (spelled Spells bits width free text p h) ∙ spelled Spells bits width free text q k) in
      let address = unique k.front h.address k.address (subst (λ t. Spells t h.address) front h.spells) k.spells in
      let number = h.value ∙ ap bits address ∙ sym k.value in
      let below = h.fits in
      let below' = k.fits in
      let len = decimal_injective p.1 q.1 (omega arith) (omega arith) back in
      λ i. (number i, len i)

  family_laws : (text_of : ℕ × ℕ → List ℕ) → ((p : ℕ × ℕ) → p.0 < 2 ^ width → p.1 ≤ width → IsNetworkText Spells bits width (text_of p) p) → FamilyTextLaws width text_of (IsNetworkText Spells bits width) (ParsesNetwork Spells bits width)
  family_laws text_of is_text = record {
    is_text = is_text;
    at_most_one = at_most_one;
    reads_back = λ p r n l h. Parses_gives (IsNetworkText Spells bits width) (text_of p) p r (at_most_one (text_of p)) (is_text p n l) h.network;
  }

below : (x : ℕ) (xs : List ℕ) → x < 256 → ((i : ℕ) → get_or xs i 0 < 256) → (i : ℕ) → get_or (x ∷ xs) i 0 < 256
below x xs h k i = elim i as (λ j. get_or (x ∷ xs) j 0 < 256) [ zero ↦ h | suc j ↦ k j ]

ipv4_only : (text : List ℕ) (p : ℕ × ℕ) → IsIpv4NetworkText text p → text ≡ ipv4_network_text p
unfolding ipv4_bits
ipv4_only text p h =
    let is = h.spells in
    let octets : List ℕ = is.a ∷ is.b ∷ is.c ∷ is.d ∷ [] in
    let (a, b, c, d) = is.fit in
    let none : (i : ℕ) → get_or {A = ℕ} [] i 0 < 256 = λ i. omega arith in
    let fit = below is.a (is.b ∷ is.c ∷ is.d ∷ []) a (below is.b (is.c ∷ is.d ∷ []) b (below is.c (is.d ∷ []) c (below is.d [] d none))) in
    let number : p.0 ≡ from_be_bytes w32 octets = h.value ∙ ap (λ o. from_be_bytes w32 o) is.value in
    let same : to_be_bytes w32 p.0 ≡ octets = be_bytes_4 octets p.0 refl fit number in
    h.spelled ∙ ap (λ t. t ++ 47 ∷ [] ++ decimal p.1) (is.spelled ∙ ap ipv4_text (sym same))

narrow : (width n : ℕ) (r : Result ℕ ParseNarrowError) → width ≤ 63 → n < 2 ^ width → ParsesNarrow width (decimal n) r → r ≡ Ok n
narrow width n r within fits h =
    let same : (m k : ℕ) → IsNarrowText width (decimal n) m → IsNarrowText width (decimal n) k → m ≡ k = λ m k a b.
    decimal_injective m k (narrow_fits width m within a.0) (narrow_fits width k within b.0) (sym a.1 ∙ b.1) in
    Parses_gives (IsNarrowText width) (decimal n) n r same (fits, refl) h

pub text_laws : TextLaws
text_laws = record {
  ipv4 = family_laws IsIpv4Text ipv4_bits 32 (λ front a. Free-dotted front (ipv4_octets a)) IsIpv4Text_unique (omega arith) ipv4_network_text
      (λ p n l. record {
        front = ipv4_text (to_be_bytes w32 p.0);
        address = record { octets = to_be_bytes w32 p.0 };
        spelled = refl;
        spells = IsDotted-ipv4_text (to_be_bytes w32 p.0) refl (bytes-below 4 p.0);
        value = bits_of_ipv4 p.0 n;
        fits = l;
      });
  ipv6 = family_laws IsIpv6Text ipv6_bits 128 (λ front a. Free-colon_hex front (ipv6_segments a)) IsIpv6Text_unique (omega arith) ipv6_network_text
      (λ p n l. record {
        front = ipv6_text (segments_of (to_be_bytes w128 p.0));
        address = record { segments = segments_of (to_be_bytes w128 p.0) };
        spelled = refl;
        spells = IsColonHex-ipv6_text (segments_of (to_be_bytes w128 p.0)) refl (segments-below (to_be_bytes w128 p.0) (bytes-below 16 p.0));
        value = bits_of_ipv6 p.0 n;
        fits = l;
      });
  ipv4_only = ipv4_only;
  ipv6_full = λ p n l. record {
    front = full_groups (segments_of (to_be_bytes w128 p.0));
    address = record { segments = segments_of (to_be_bytes w128 p.0) };
    spelled = refl;
    spells = IsColonHex-full_groups (segments_of (to_be_bytes w128 p.0)) refl (segments-below (to_be_bytes w128 p.0) (bytes-below 16 p.0));
    value = bits_of_ipv6 p.0 n;
    fits = l;
  };
  narrow = narrow;
}
