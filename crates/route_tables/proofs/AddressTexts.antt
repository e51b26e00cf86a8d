-- The text of an address has a dot or a colon: for `is_address`.
use Rattle.std.proofs.Common.{◌≡◌, ◌||◌, ℕ, Bool, true, false, List, [], ◌∷◌, ◌++◌, decimal, length, refl, sym, ap, ◌∙◌, subst, inl, inr, arith, codes}
use Rattle.std.proofs.lemmas.List.Folds.{list_any-append}
use Rattle.std.specs.Net.Grammar.{IsColonHex, IsDotted, IsGroupsAfter, IsIpText}
use Rattle.std.specs.declared.net.ip_addr.IpAddr.{IpAddr}
use Rattle.std.specs.declared.net.ip_addr.IpAddr.TheVariants as Ip
use Rattle.route_tables.specs.Lines.{has_separator}

any_front : (xs ys : List ℕ) → has_separator xs ≡ true → has_separator (xs ++ ys) ≡ true
any_front xs ys some = list_any-append _ xs ys ∙ ap (λ b. b || has_separator ys) some

any_back : (xs ys : List ℕ) → has_separator ys ≡ true → has_separator (xs ++ ys) ≡ true
any_back xs ys some =
    list_any-append _ xs ys ∙ ap (λ b. has_separator xs || b) some
    ∙ elim (has_separator xs) as (λ b. (b || true) ≡ true) [ true ↦ refl | false ↦ refl ]

of_dotted : (text octets : List ℕ) → IsDotted text octets → has_separator text ≡ true
of_dotted text octets is =
    let a = decimal is.a ++ codes "." in
    let b = a ++ decimal is.b in
    let c = b ++ codes "." in
    let d = c ++ decimal is.c in
    let e = d ++ codes "." in
    subst (λ t. has_separator t ≡ true) (sym is.spelled)
    (any_front e (decimal is.d) (any_front d (codes ".") (any_front c (decimal is.c) (any_front b (codes ".") (any_front a (decimal is.b) (any_back (decimal is.a) (codes ".") refl))))))

after_colon : (ipv4 : Bool) (text segments : List ℕ) (s : ℕ) → IsGroupsAfter ipv4 (codes ":") text (s ∷ segments) → has_separator text ≡ true
after_colon ipv4 text segments s (inl (group, rest, is, of_group, later)) =
    subst (λ t. has_separator t ≡ true) (sym is) (any_front (codes ":" ++ group) rest (any_front (codes ":") group refl))
after_colon ipv4 text segments s (inr (last, octets, allowed, is, dotted, of)) =
    subst (λ t. has_separator t ≡ true) (sym is) (any_front (codes ":") last refl)

of_groups : (text segments : List ℕ) → length segments ≡ 8 → IsGroupsAfter true [] text segments → has_separator text ≡ true
of_groups text [] long is = absurd (omega arith)
of_groups text (s ∷ []) long is = absurd (omega arith)
of_groups text (s ∷ t ∷ segments) long (inl (group, rest, is, of_group, later)) =
    subst (λ t. has_separator t ≡ true) (sym is) (any_back group rest (after_colon true rest segments t later))
of_groups text (s ∷ t ∷ segments) long (inr (last, octets, allowed, is, dotted, of)) =
    subst (λ t. has_separator t ≡ true) (sym is) (of_dotted last octets dotted)

of_colon_hex : (text segments : List ℕ) → IsColonHex text segments → has_separator text ≡ true
of_colon_hex text segments (inl (groups, long)) = of_groups text segments long groups
of_colon_hex text segments (inr elided) =
    subst (λ t. has_separator t ≡ true) (sym elided.spelled) (any_front (elided.head_text ++ codes "::") elided.tail_text (any_back elided.head_text (codes "::") refl))

-- the text of an address has a dot or a colon
pub address_has_separator : (text : List ℕ) (address : IpAddr) → IsIpText text address → has_separator text ≡ true
address_has_separator text (Ip.V4 address) is = of_dotted text _ is
address_has_separator text (Ip.V6 address) is = of_colon_hex text _ is
