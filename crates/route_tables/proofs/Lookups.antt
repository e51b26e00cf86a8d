-- What is printed for the networks that are found for a question: for `print_each` and `print_found`.
use Rattle.std.proofs.Common.{◌≡◌, ◌∙◌, ℕ, Bool, true, false, true≢false, List, [], ◌∷◌, ◌++◌, OnOk, Option, Some, Result, Ok, Err, ap, append-nil, append_assoc, flat_map, is_ok, map, refl, subst, sym}
use Rattle.std.specs.Borrow.{Bor}
use Rattle.std.specs.Io.KnownBytes.{Appends}
use Rattle.std.specs.Iterator.{Drains, Yields}
use Rattle.std.specs.Map.Iter.{TakesFirst}
use Rattle.std.proofs.lemmas.Result.{on_ok_weaker}
use Rattle.prefix_trie.specs.Terms.{lent_item}
use Rattle.prefix_trie_joint.specs.declared.prefix.IpPrefix.{IpPrefix}
use Rattle.route_tables.specs.Printed.{answer_line, answer_lines}
use Rattle.route_tables.proofs.Printing.{appends_both, appends_none}

-- the lines of networks that are found
abbrev pub found_lines : List ℕ → List (IpPrefix × Bor (List ℕ)) → List ℕ
found_lines text lent = flat_map (λ found. answer_line text (Some found)) (map lent_item lent)

abbrev pub any_of : {X : Type 0} → List X → Bool
any_of [] = false
any_of (x ∷ xs) = true

any_more : {X : Type 0} (xs : List X) (x : X) → true ≡ any_of (xs ++ x ∷ [])
any_more [] x = refl
any_more (y ∷ ys) x = refl

lines_of_more : (text : List ℕ) (lent : List (IpPrefix × Bor (List ℕ))) (item : IpPrefix × Bor (List ℕ))
    → found_lines text lent ++ answer_line text (Some (lent_item item)) ≡ found_lines text (lent ++ item ∷ [])
lines_of_more text [] item = sym (append-nil (answer_line text (Some (lent_item item))))
lines_of_more text (x ∷ xs) item =
    let line : List ℕ = answer_line text (Some (lent_item x)) in
    append_assoc line (found_lines text xs) (answer_line text (Some (lent_item item))) ∙ ap (λ rest. line ++ rest) (lines_of_more text xs item)

-- the networks so far are printed
pub record FoundSoFar (text : List ℕ) (lent : List (IpPrefix × Bor (List ℕ))) (is_any : Bool) (before now : Option (List ℕ)) : Type 0 where
  pub printed : Appends before now (found_lines text lent)
  pub any : is_any ≡ any_of lent

pub found_start : (text : List ℕ) (a : Option (List ℕ)) → FoundSoFar text [] false a a
found_start text a = record { printed = appends_none a; any = refl }

pub found_more : (text : List ℕ) (lent : List (IpPrefix × Bor (List ℕ))) (item : IpPrefix × Bor (List ℕ)) (is_any : Bool) (a b c : Option (List ℕ)) → FoundSoFar text lent is_any a b
    → Appends b c (answer_line text (Some (lent_item item))) → FoundSoFar text (lent ++ item ∷ []) true a c
found_more text lent item is_any a b c old one = record {
  printed = subst (Appends a c) (lines_of_more text lent item) (appends_both a b c (found_lines text lent) (answer_line text (Some (lent_item item))) old.printed one);
  any = any_more lent item;
}

come_first : (lent : List (IpPrefix × Bor (List ℕ))) (s t : List (IpPrefix × List ℕ)) → Yields (TakesFirst lent_item) s lent t → s ≡ map lent_item lent ++ t
come_first [] s t same = same
come_first (x ∷ xs) s t (next, takes, later) = takes ∙ ap (λ zs. lent_item x ∷ zs) (come_first xs next t later)

-- all that a walk had left is printed
pub walk_printed : {X E : Type 0} (text : List ℕ) (walk listed : List (IpPrefix × List ℕ)) (a b : Option (List ℕ)) (made : Result X E)
    → OnOk made ((lent : List (IpPrefix × Bor (List ℕ))) × Drains (TakesFirst lent_item) walk lent × Appends a b (answer_lines text (map lent_item lent))) → walk ≡ listed
    → OnOk made (Appends a b (answer_lines text listed))
walk_printed text walk listed a b made of_walk is =
    on_ok_weaker made
    (λ (lent, (u, (t, yields, none)), printed).
    subst (λ xs. Appends a b (answer_lines text xs)) (sym (come_first lent walk t yields ∙ ap (λ zs. map lent_item lent ++ zs) none.0 ∙ append-nil (map lent_item lent)) ∙ is) printed)
    of_walk

-- what holds of one success holds of another
pub ok_of : {X Y E F : Type 0} (made : Result X E) (result : Result Y F) (P : Type 0) → is_ok result ≡ is_ok made → OnOk made P → OnOk result P
ok_of (Ok x) (Ok y) P same holds = holds
ok_of (Ok x) (Err f) P same holds = tt
ok_of (Err e) (Ok y) P same holds = absurd (true≢false same)
ok_of (Err e) (Err f) P same holds = tt
