-- The bytes of the texts of networks: no white space, no hyphen, no comment sign. For `printed_laws`.
use Rattle.std.proofs.Common.{◌≡◌, ◌∙◌, ◌⊎◌, ℕ, suc, zero, ◌-◌, ◌<◌, ◌≤◌, ◌^◌, leb, ltb, Bool, true, false, cond, ◌||◌, List, [], ◌∷◌, ◌++◌, decimal, length, refl, sym, ap, subst, inl, inr, arith, codes, length-append}
use Rattle.std.proofs.lemmas.Bool.{and_parts, cases_lt, le-ltb, leb-true, lt-ltb, ne_eqb}
use Rattle.std.proofs.lemmas.Fmt.{decimal_is_IsNumeral}
use Rattle.std.proofs.lemmas.List.Folds.{list_any-append}
use Rattle.std.specs.Char.{digit_value, is_ascii_whitespace}
use Rattle.std.specs.Int.{is_in_range}
use Rattle.std.specs.List.{list_any}
use Rattle.std.specs.Net.Grammar.{IsColonHex, IsDotted, IsGroupsAfter}
use Rattle.std.specs.Prelude.{◌==◌}
use Rattle.std.proofs.lemmas.Str.{IsUtf8-from_ascii}
use Rattle.std.specs.Str.{IsAscii, IsUtf8}
use Rattle.std.specs.Str.Parse.{AllDigits}
use Rattle.prefix_trie_joint.specs.Texts.{IsIpNetworkText}
use Rattle.prefix_trie_joint.specs.declared.prefix.IpPrefix.{IpPrefix}
use Rattle.prefix_trie_joint.specs.declared.prefix.IpPrefix.TheVariants.{V4, V6}
use Rattle.route_tables.specs.Lines.{begins_comment}
use Rattle.route_tables.specs.Networks.{has_hyphen, has_slash}
use Rattle.route_tables.proofs.LineValues.{IsWord}

-- a byte of the text of a network: a hexadecimal digit, a dot, a colon or a slash
abbrev pub IsTextByte : ℕ → Type 0
IsTextByte c = (digit_value c < 16) ⊎ ((c ≡ 46) ⊎ ((c ≡ 58) ⊎ (c ≡ 47)))

abbrev pub AreTextBytes : List ℕ → Type 0
AreTextBytes [] = Unit {0}
AreTextBytes (c ∷ cs) = IsTextByte c × AreTextBytes cs

both_texts : (xs ys : List ℕ) → AreTextBytes xs → AreTextBytes ys → AreTextBytes (xs ++ ys)
both_texts [] ys p q = q
both_texts (x ∷ xs) ys p q = (p.0, both_texts xs ys p.1 q)

of_digits : (radix : ℕ) (ds : List ℕ) → radix ≤ 16 → AllDigits radix ds → AreTextBytes ds
of_digits radix [] le all = tt
of_digits radix (c ∷ cs) le all = (inl (let h = all.0 in omega (arith, h, le)), of_digits radix cs le all.1)

of_decimal : (n : ℕ) → n < 2 ^ 64 → AreTextBytes (decimal n)
of_decimal n small = of_digits 10 (decimal n) (omega arith) (decimal_is_IsNumeral n small).0.1

dot : AreTextBytes (codes ".")
dot = (inr (inl refl), tt)

colon : AreTextBytes (codes ":")
colon = (inr (inr (inl refl)), tt)

of_dotted : (text octets : List ℕ) → IsDotted text octets → AreTextBytes text
of_dotted text octets is =
    let a = decimal is.a ++ codes "." in
    let b = a ++ decimal is.b in
    let c = b ++ codes "." in
    let d = c ++ decimal is.c in
    let e = d ++ codes "." in
    let fit = is.fit in
    let of_a : AreTextBytes a = both_texts (decimal is.a) (codes ".") (of_decimal is.a (omega (arith, fit.0))) dot in
    let of_b : AreTextBytes b = both_texts a (decimal is.b) of_a (of_decimal is.b (omega (arith, fit.1))) in
    let of_c : AreTextBytes c = both_texts b (codes ".") of_b dot in
    let of_d : AreTextBytes d = both_texts c (decimal is.c) of_c (of_decimal is.c (omega (arith, fit.2))) in
    let of_e : AreTextBytes e = both_texts d (codes ".") of_d dot in
    subst AreTextBytes (sym is.spelled) (both_texts e (decimal is.d) of_e (of_decimal is.d (omega (arith, fit.3))))

of_groups : (ipv4 : Bool) (lead text segments : List ℕ) → AreTextBytes lead → IsGroupsAfter ipv4 lead text segments → AreTextBytes text
of_groups ipv4 lead text [] l is = subst AreTextBytes (sym is) tt
of_groups ipv4 lead text (s ∷ segments) l (inl (group, rest, is, of_group, later)) =
    subst AreTextBytes (sym is) (both_texts (lead ++ group) rest (both_texts lead group l (of_digits 16 group (omega arith) of_group.0.0.1)) (of_groups ipv4 (codes ":") rest segments colon later))
of_groups ipv4 lead text (s ∷ segments) l (inr (last, octets, allowed, is, dotted, value)) =
    subst AreTextBytes (sym is) (both_texts lead last l (of_dotted last octets dotted))

of_colon_hex : (text segments : List ℕ) → IsColonHex text segments → AreTextBytes text
of_colon_hex text segments (inl (all, long)) = of_groups true [] text segments tt all
of_colon_hex text segments (inr e) =
    subst AreTextBytes (sym e.spelled)
    (both_texts (e.head_text ++ codes "::") e.tail_text (both_texts e.head_text (codes "::") (of_groups false [] e.head_text e.head tt e.head_groups) (colon.0, colon))
    (of_groups true [] e.tail_text e.tail tt e.tail_groups))

slash : AreTextBytes (codes "/")
slash = (inr (inr (inr refl)), tt)

pub of_network : (text : List ℕ) (network : IpPrefix) → IsIpNetworkText text network → AreTextBytes text
of_network text (V4 network) is =
    let fits = is.fits in
    subst AreTextBytes (sym is.spelled) (both_texts (is.front ++ codes "/") (decimal network.1) (both_texts is.front (codes "/") (of_dotted is.front _ is.spells) slash) (of_decimal network.1 (omega (arith, fits))))
of_network text (V6 network) is =
    let fits = is.fits in
    subst AreTextBytes (sym is.spelled) (both_texts (is.front ++ codes "/") (decimal network.1) (both_texts is.front (codes "/") (of_colon_hex is.front _ is.spells) slash) (of_decimal network.1 (omega (arith, fits))))

-- ---- what such bytes are not

other_byte : (k : ℕ) → (digit_value k < 16 → ⊥) → (k ≡ 46 → ⊥) → (k ≡ 58 → ⊥) → (k ≡ 47 → ⊥) → (c : ℕ) → IsTextByte c → (c == k) ≡ false
other_byte k digit point double stroke c is = ne_eqb c k (λ e. none (subst IsTextByte e is))
  where
    none : IsTextByte k → ⊥
    none (inl h) = digit h
    none (inr (inl h)) = point h
    none (inr (inr (inl h))) = double h
    none (inr (inr (inr h))) = stroke h

no_hyphen : (c : ℕ) → IsTextByte c → (c == 45) ≡ false
no_hyphen = other_byte 45 (λ h. let z : 36 < 16 = h in omega arith) (λ h. omega (arith, h)) (λ h. omega (arith, h)) (λ h. omega (arith, h))

no_comment : (c : ℕ) → IsTextByte c → (c == 35) ≡ false
no_comment = other_byte 35 (λ h. let z : 36 < 16 = h in omega arith) (λ h. omega (arith, h)) (λ h. omega (arith, h)) (λ h. omega (arith, h))

pub no_mark : (c : ℕ) → IsTextByte c → (c == 0xEF) ≡ false
no_mark = other_byte 0xEF (λ h. let z : 36 < 16 = h in omega arith) (λ h. omega (arith, h)) (λ h. omega (arith, h)) (λ h. omega (arith, h))

-- white space is one of these
in_range : (low high c : ℕ) → is_in_range low high c ≡ true → (low ≤ c) × (c ≤ high)
in_range low high c h = let parts = and_parts (leb low c) (leb c high) h in (leb-true low c parts.0, leb-true c high parts.1)

one_of : (a b : Bool) → (a || b) ≡ true → (a ≡ true) ⊎ (b ≡ true)
one_of true b h = inl refl
one_of false b h = inr h

white_is : (c : ℕ) → is_ascii_whitespace c ≡ true → (c ≤ 13) ⊎ (c ≡ 32)
white_is c h = elim (one_of (is_in_range 9 10 c || is_in_range 12 13 c) (is_in_range 32 32 c) h) [
  | inl control ↦ elim (one_of (is_in_range 9 10 c) (is_in_range 12 13 c) control) [
    | inl r ↦ inl (let e = in_range 9 10 c r in omega (arith, e))
    | inr r ↦ inl (let e = in_range 12 13 c r in omega (arith, e))
  ]
  | inr space ↦ inr (let e = in_range 32 32 c space in omega (arith, e))
]

small : (c : ℕ) → c ≤ 13 → digit_value c ≡ 36
small c le = ap (λ b. cond b 36 (cond (ltb c 58) (c - 48) (cond (ltb c 65) 36 (cond (ltb c 91) (c - 55) (cond (ltb c 97) 36 (cond (ltb c 123) (c - 87) 36)))))) (lt-ltb c 48 (omega (arith, le)))

not_white : (c : ℕ) → IsTextByte c → is_ascii_whitespace c ≡ false
not_white c is = elim (is_ascii_whitespace c) as (λ b. is_ascii_whitespace c ≡ b → b ≡ false) [
  | true ↦ λ h. absurd (elim (white_is c h) [
    | inl le ↦ of_small le is
    | inr e ↦ of_space (subst IsTextByte e is)
  ])
  | false ↦ λ h. refl
] refl
  where
    of_small : c ≤ 13 → IsTextByte c → ⊥
    of_small le (inl h) = (let e = small c le in omega (arith, e, h))
    of_small le (inr (inl h)) = omega (arith, le, h)
    of_small le (inr (inr (inl h))) = omega (arith, le, h)
    of_small le (inr (inr (inr h))) = omega (arith, le, h)

    of_space : IsTextByte 32 → ⊥
    of_space (inl h) = (let z : 36 < 16 = h in omega arith)
    of_space (inr (inl h)) = omega (arith, h)
    of_space (inr (inr (inl h))) = omega (arith, h)
    of_space (inr (inr (inr h))) = omega (arith, h)

none_pass : (p : ℕ → Bool) → ((c : ℕ) → IsTextByte c → p c ≡ false) → (cs : List ℕ) → AreTextBytes cs → list_any p cs ≡ false
none_pass p lacks [] all = refl
none_pass p lacks (c ∷ cs) all = ap (λ b. b || list_any p cs) (lacks c all.0) ∙ none_pass p lacks cs all.1

pub text_has_no_hyphen : (cs : List ℕ) → AreTextBytes cs → has_hyphen cs ≡ false
text_has_no_hyphen = none_pass (λ b. b == 45) no_hyphen

pub text_is_word : (cs : List ℕ) → 0 < length cs → AreTextBytes cs → IsWord cs
text_is_word [] some all = absurd (omega (arith, some))
text_is_word (c ∷ cs) some all = none_pass is_ascii_whitespace not_white (c ∷ cs) all

pub text_is_no_comment : (cs : List ℕ) → AreTextBytes cs → begins_comment cs ≡ false
text_is_no_comment [] all = refl
text_is_no_comment (c ∷ cs) all = no_comment c all.0

-- each has a slash
has_slash_at : (front back : List ℕ) → has_slash ((front ++ codes "/") ++ back) ≡ true
has_slash_at front back =
    list_any-append (λ b. b == 47) (front ++ codes "/") back
    ∙ ap (λ b. b || has_slash back) (list_any-append (λ b. b == 47) front (codes "/") ∙ elim (has_slash front) as (λ b. (b || true) ≡ true) [ true ↦ refl | false ↦ refl ])

pub text_has_slash : (text : List ℕ) (network : IpPrefix) → IsIpNetworkText text network → has_slash text ≡ true
text_has_slash text (V4 network) is = ap has_slash is.spelled ∙ has_slash_at is.front (decimal network.1)
text_has_slash text (V6 network) is = ap has_slash is.spelled ∙ has_slash_at is.front (decimal network.1)

slash_some : (front back : List ℕ) → 0 < length ((front ++ codes "/") ++ back)
slash_some front back = (let a = length-append (front ++ codes "/") back in let b = length-append front (codes "/") in let one : length (codes "/") ≡ 1 = refl in omega (arith, a, b, one))

pub text_is_some : (text : List ℕ) (network : IpPrefix) → IsIpNetworkText text network → 0 < length text
text_is_some text (V4 network) is = subst (λ t. 0 < length t) (sym is.spelled) (slash_some is.front (decimal network.1))
text_is_some text (V6 network) is = subst (λ t. 0 < length t) (sym is.spelled) (slash_some is.front (decimal network.1))

-- each byte is ASCII
high : (c : ℕ) → 128 ≤ c → digit_value c ≡ 36
high c le =
    ap (λ b. cond b 36 (cond (ltb c 58) (c - 48) (cond (ltb c 65) 36 (cond (ltb c 91) (c - 55) (cond (ltb c 97) 36 (cond (ltb c 123) (c - 87) 36)))))) (le-ltb c 48 (omega (arith, le)))
    ∙ ap (λ b. cond b (c - 48) (cond (ltb c 65) 36 (cond (ltb c 91) (c - 55) (cond (ltb c 97) 36 (cond (ltb c 123) (c - 87) 36))))) (le-ltb c 58 (omega (arith, le)))
    ∙ ap (λ b. cond b 36 (cond (ltb c 91) (c - 55) (cond (ltb c 97) 36 (cond (ltb c 123) (c - 87) 36)))) (le-ltb c 65 (omega (arith, le)))
    ∙ ap (λ b. cond b (c - 55) (cond (ltb c 97) 36 (cond (ltb c 123) (c - 87) 36))) (le-ltb c 91 (omega (arith, le)))
    ∙ ap (λ b. cond b 36 (cond (ltb c 123) (c - 87) 36)) (le-ltb c 97 (omega (arith, le))) ∙ ap (λ b. cond b (c - 87) 36) (le-ltb c 123 (omega (arith, le)))

below_128 : (c : ℕ) → IsTextByte c → c < 128
below_128 c (inl h) = elim (cases_lt c 128) [ inl lt ↦ lt | inr ge ↦ absurd (let e = high c ge in omega (arith, e, h)) ]
below_128 c (inr (inl h)) = omega (arith, h)
below_128 c (inr (inr (inl h))) = omega (arith, h)
below_128 c (inr (inr (inr h))) = omega (arith, h)

ascii : (cs : List ℕ) → AreTextBytes cs → IsAscii cs
ascii [] all i = omega arith
ascii (c ∷ cs) all zero = below_128 c all.0
ascii (c ∷ cs) all (suc i) = ascii cs all.1 i

pub text_is_utf8 : (cs : List ℕ) → AreTextBytes cs → IsUtf8 cs
text_is_utf8 cs all = IsUtf8-from_ascii cs (ascii cs all)
