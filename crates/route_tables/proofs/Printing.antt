-- Pieces that are printed one after another, and lines that a loop prints: for `print_route` and the functions that print lists.
use Rattle.std.proofs.Common.{◌≡◌, ℕ, ◌+◌, ◌<◌, ◌≤◌, List, [], ◌∷◌, ◌++◌, Option, None, Some, ap, refl, subst, sym, ◌∙◌, append_assoc, append-nil, ◌==◌, false, true≢false, flat_map, get_or, length, map, take, Result, Ok, Err, OnOk}
use Rattle.std.proofs.lemmas.List.{flat_map_more, take_all, take_more}
use Rattle.std.specs.Borrow.{Bor}
use Rattle.std.specs.Io.KnownBytes.{Appends}
use Rattle.std.proofs.lemmas.List.Concat.{flat_map-append}
use Rattle.prefix_trie_bits.specs.Networks.{network_back, network_path}
use Rattle.prefix_trie.specs.Terms.{lent_item}
use Rattle.prefix_trie_joint.specs.Joined.{both_networks}
use Rattle.prefix_trie_joint.specs.Texts.{ip_network_text}
use Rattle.prefix_trie_joint.specs.declared.prefix.IpPrefix.{IpPrefix}
use Rattle.prefix_trie_joint.specs.declared.prefix.IpPrefix.TheVariants.{V4, V6}
use Rattle.prefix_trie_ops.specs.Merging.{lent_side, lent_values}
use Rattle.prefix_trie_ops.specs.declared.map.sides.Side.{Side}
use Rattle.route_tables.specs.AddressSets.{AreFewestOfSet, PrintsFewest}
use Rattle.route_tables.specs.Printed.{change_line, network_line, networks_text, route_line, routes_text, IsConversion, PrintsBoth, PrintsFamily, PrintsNetworks}

pub appends_both : (a b c : Option (List ℕ)) (first second : List ℕ) → Appends a b first → Appends b c second → Appends a c (first ++ second)
appends_both None b c first second e f = tt
appends_both (Some x) None c first second e f = absurd e
appends_both (Some x) (Some y) None first second e f = absurd f
appends_both (Some x) (Some y) (Some z) first second e f = f ∙ ap (λ bytes. bytes ++ second) e ∙ append_assoc x first second

-- a piece after another, at the end of a function
pub appends_then : {X E : Type 0} (a b c : Option (List ℕ)) (first second : List ℕ) → Appends a b first → (r : Result X E) → OnOk r (Appends b c second) → OnOk r (Appends a c (first ++ second))
appends_then a b c first second e (Ok x) f = appends_both a b c first second e f
appends_then a b c first second e (Err x) f = tt

-- a network with a space, its value, and the end of the line
pub route_printed : {X E : Type 0} (network : IpPrefix) (value bytes : List ℕ) → (length value == 0) ≡ false → bytes ≡ value → (a b c d : Option (List ℕ))
    → Appends a b (ip_network_text network ++ (32 ∷ [])) → Appends b c bytes → (r : Result X E) → OnOk r (Appends c d (10 ∷ [])) → OnOk r (Appends a d (route_line network value))
route_printed network [] bytes full is a b c d e f r h = absurd (true≢false full)
route_printed network (byte ∷ rest) bytes full is a b c d e f r h =
    let P : List ℕ → Type 0 = Appends b c in
    appends_then a c d (ip_network_text network ++ (32 ∷ []) ++ (byte ∷ rest)) (10 ∷ []) (appends_both a b c (ip_network_text network ++ (32 ∷ [])) (byte ∷ rest) e (subst P is f)) r h

-- the lines of mapped items
pub flat_map_of_map : {X Y A : Type 0} (f : Y → List A) (g : X → Y) (xs : List X) → flat_map f (map g xs) ≡ flat_map (λ x. f (g x)) xs
flat_map_of_map f g [] = refl
flat_map_of_map f g (x ∷ xs) = ap (λ rest. f (g x) ++ rest) (flat_map_of_map f g xs)

-- nothing is printed
pub appends_none : (a : Option (List ℕ)) → Appends a a []
appends_none None = tt
appends_none (Some x) = sym (append-nil x)

module _ {X : Type 0} (line : X → List ℕ) where
  -- a loop over a list printed the lines of its first items, and prints one more
  pub lines_more : (xs : List X) (i : ℕ) (x : X) → i < length xs → get_or xs i x ≡ x → (a b c : Option (List ℕ)) → Appends a b (flat_map line (take i xs)) → Appends b c (line x)
      → Appends a c (flat_map line (take (i + 1) xs))
  lines_more xs i x less is a b c e f =
      subst (Appends a c) (flat_map_more line [] (take i xs) x ∙ ap (λ y. flat_map line (take i xs ++ y ∷ [])) (sym is) ∙ ap (flat_map line) (sym (take_more xs i x less)))
      (appends_both a b c (flat_map line (take i xs)) (line x) e f)

  -- it printed all lines
  pub lines_end : (xs : List X) (i : ℕ) → length xs ≤ i → (a b : Option (List ℕ)) → Appends a b (flat_map line (take i xs)) → Appends a b (flat_map line xs)
  lines_end xs i all a b e = subst (λ ys. Appends a b (flat_map line ys)) (take_all i xs all) e

-- the line of what two tables have at a network
abbrev pub difference_line : {P : Type 0} → (P → IpPrefix) → P × Side (Bor (List ℕ)) (Bor (List ℕ)) → List ℕ
difference_line ip change = change_line (ip change.0) (lent_values change.1)

-- the line of a network and the value that is lent with it
abbrev pub entry_line : {P : Type 0} → (P → IpPrefix) → P × Bor (List ℕ) → List ℕ
entry_line ip entry = route_line (ip entry.0) entry.1.now

pub entries_lines : {P : Type 0} (ip : P → IpPrefix) (xs : List (P × Bor (List ℕ))) → flat_map (entry_line ip) xs ≡ routes_text (map (λ e. (ip e.0, e.1)) (map lent_item xs))
entries_lines ip [] = refl
entries_lines ip (x ∷ xs) = ap (λ rest. entry_line ip x ++ rest) (entries_lines ip xs)

pub differences_lines : {P : Type 0} (ip : P → IpPrefix) (xs : List (P × Side (Bor (List ℕ)) (Bor (List ℕ))))
    → flat_map (difference_line ip) xs ≡ flat_map (λ e. change_line (ip e.0) e.1) (map lent_side xs)
differences_lines ip [] = refl
differences_lines ip (x ∷ xs) = ap (λ rest. difference_line ip x ++ rest) (differences_lines ip xs)

pub networks_lines : {P : Type 0} (ip : P → IpPrefix) (xs : List P) → flat_map (λ network. network_line (ip network)) xs ≡ networks_text (map ip xs)
networks_lines ip xs = sym (flat_map_of_map network_line ip xs)

-- what a walk printed so far, with what it has still to print, is all of a text
pub record PrintsSoFar (before now : Option (List ℕ)) (rest all : List ℕ) : Type 0 where
  pub text : List ℕ
  pub printed : Appends before now text
  pub whole : text ++ rest ≡ all

pub so_far_start : (before : Option (List ℕ)) (rest all : List ℕ) → rest ≡ all → PrintsSoFar before before rest all
so_far_start before rest all e = record { text = []; printed = appends_none before; whole = e }

pub so_far_more : (before now next : Option (List ℕ)) (line later rest all : List ℕ) → rest ≡ line ++ later → Appends now next line → PrintsSoFar before now rest all
    → PrintsSoFar before next later all
so_far_more before now next line later rest all split more old = record {
  text = old.text ++ line;
  printed = appends_both before now next old.text line old.printed more;
  whole = append_assoc old.text line later ∙ ap (λ xs. old.text ++ xs) (sym split) ∙ old.whole;
}

pub so_far_end : (before now : Option (List ℕ)) (rest all : List ℕ) → rest ≡ [] → PrintsSoFar before now rest all → Appends before now all
so_far_end before now rest all none old = subst (Appends before now) (sym (append-nil old.text) ∙ ap (λ xs. old.text ++ xs) (sym none) ∙ old.whole) old.printed

-- routes of one family and then those of the other
pub prints_both : (Ipv4 Ipv6 : ℕ × ℕ → IpPrefix → Type 0) (AreIpv4 AreIpv6 : List ((ℕ × ℕ) × List ℕ) → Type 0) → IsConversion Ipv4 V4 → IsConversion Ipv6 V6 → (a b c : Option (List ℕ))
    → PrintsFamily Ipv4 AreIpv4 a b → PrintsFamily Ipv6 AreIpv6 b c → PrintsBoth AreIpv4 AreIpv6 a c
prints_both Ipv4 Ipv6 AreIpv4 AreIpv6 is_v4 is_v6 a b c (ipv4, are4, prints4) (ipv6, are6, prints6) =
    let line : IpPrefix × List ℕ → List ℕ = λ route. route_line route.0 route.1 in
    let first : List (IpPrefix × List ℕ) = map (λ route. (V4 route.0, route.1)) ipv4 in
    let second : List (IpPrefix × List ℕ) = map (λ route. (V6 route.0, route.1)) ipv6 in
    (ipv4, ipv6, are4, are6, subst (Appends a c) (sym (flat_map-append line first second)) (appends_both a b c (routes_text first) (routes_text second) (prints4 V4 is_v4) (prints6 V6 is_v6)))

-- networks of one family and then those of the other
pub prints_networks : (a b c : Option (List ℕ)) (ipv4 ipv6 : List (ℕ × ℕ)) → Appends a b (networks_text (map V4 ipv4)) → Appends b c (networks_text (map V6 ipv6))
    → Appends a c (networks_text (both_networks ipv4 ipv6))
prints_networks a b c ipv4 ipv6 e f =
    subst (Appends a c) (sym (flat_map-append network_line (map V4 ipv4) (map V6 ipv6))) (appends_both a b c (networks_text (map V4 ipv4)) (networks_text (map V6 ipv6)) e f)

-- the fewest networks of a set of one family and then those of the other
pub prints_fewest : (set4 set6 : List ℕ) (a b c : Option (List ℕ))
    → PrintsNetworks (λ (p : ℕ × ℕ) (q : IpPrefix). q ≡ V4 p) (AreFewestOfSet 32 (network_path 32) (network_back 32) set4) a b
    → PrintsNetworks (λ (p : ℕ × ℕ) (q : IpPrefix). q ≡ V6 p) (AreFewestOfSet 128 (network_path 128) (network_back 128) set6) b c → PrintsFewest set4 set6 a c
prints_fewest set4 set6 a b c (ipv4, are4, prints4) (ipv6, are6, prints6) =
    (ipv4, ipv6, are4, are6, prints_networks a b c ipv4 ipv6 (prints4 V4 (λ p q e. e)) (prints6 V6 (λ p q e. e)))
