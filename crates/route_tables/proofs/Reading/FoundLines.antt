-- Finding the bad lines of a text line by line: the invariant of the loop, and how each line preserves it: for `find_bad_lines`.
use Rattle.std.proofs.Common.{◌≡◌, ◌∙◌, ℕ, ◌+◌, ◌<◌, ◌≤◌, true, false, cond, nat_lt, List, [], ◌∷◌, ◌++◌, Option, None, Some, MatchOption, ap, append-nil, append_assoc, arith, inl, inr, length, length-append, refl, subst, sym, take}
use Rattle.std.proofs.lemmas.Bool.{ltb-false, ltb-true}
use Rattle.std.proofs.lemmas.List.{take-append-le, take_all}
use Rattle.prefix_trie_joint.specs.declared.prefix.IpPrefix.{IpPrefix}
use Rattle.route_tables.specs.BadLines.{AreBadLines, AreFirstOf, FindsLine, IsBadLine}
use Rattle.route_tables.specs.Routes.{IsBlank, IsGood, IsRoute}
use Rattle.route_tables.specs.declared.messages.bad_lines.FoundBadLines.{FoundBadLines}
use Rattle.route_tables.specs.declared.load.BadLine.{BadLine}
use Rattle.route_tables.specs.declared.load.Reading.{Reading}
use Rattle.route_tables.proofs.Loads.{one_bad, one_good}

-- a line from which something was read is good
pub good_of_read : {X : Type 0} (reading : Reading) (line : List ℕ) (networks : X → List IpPrefix) (value : X → List ℕ) (found : Option X)
    → MatchOption found (IsBlank line) (λ x. IsRoute reading line (networks x) (value x)) → IsGood reading line
good_of_read reading line networks value None blank = inl blank
good_of_read reading line networks value (Some x) route = inr (networks x, value x, route)

-- the bad lines among those so far are found
pub record FindsSoFar (reading : Reading) (whole rest : List (List ℕ)) (number : ℕ) (found : FoundBadLines) : Type 0 where
  pub done : List (List ℕ)
  pub split : whole ≡ done ++ rest
  pub number_is : number ≡ length done
  pub all : List BadLine
  pub are : AreBadLines reading 0 done all
  pub few : length all ≤ length done
  pub first : AreFirstOf found all

first_more : (before after : FoundBadLines) (all : List BadLine) (bad : BadLine) → AreFirstOf before all → after.count ≡ before.count + 1
    → after.first.items ≡ cond (nat_lt before.count 20) (before.first.items ++ bad ∷ []) before.first.items → AreFirstOf after (all ++ bad ∷ [])
first_more before after all bad (items, count) more is = (
  is
      ∙ elim (nat_lt before.count 20) as (λ b. nat_lt before.count 20 ≡ b → cond b (before.first.items ++ bad ∷ []) before.first.items ≡ take 20 (all ++ bad ∷ [])) [
        | true ↦ λ less.
            let short : before.count < 20 = ltb-true before.count 20 less in
            let whole : take 20 all ≡ all = take_all 20 all (omega (arith, count)) in
            let more : take 20 (all ++ bad ∷ []) ≡ all ++ bad ∷ [] = take_all 20 (all ++ bad ∷ []) (omega (arith, count, length-append all (bad ∷ []))) in
            ap (λ xs. xs ++ bad ∷ []) (items ∙ whole) ∙ sym more
        | false ↦ λ not_less.
            let long : 20 ≤ before.count = ltb-false before.count 20 not_less in
            let within : 20 ≤ length all = omega (arith, count) in
            items ∙ sym (take-append-le 20 all (bad ∷ []) within)
      ] refl,
  more ∙ ap (λ n. n + 1) count ∙ sym (length-append all (bad ∷ [])),
)

pub find_on : (reading : Reading) (whole rest later : List (List ℕ)) (line : List ℕ) (number : ℕ) (before after : FoundBadLines) → rest ≡ line ∷ later
    → FindsLine reading (number + 1) line before after → FindsSoFar reading whole rest number before → FindsSoFar reading whole later (number + 1) after
find_on reading whole rest later line number before after split (inl (good, items, count)) old = record {
  done = old.done ++ line ∷ [];
  split = old.split ∙ ap (λ r. old.done ++ r) split ∙ sym (append_assoc old.done (line ∷ []) later);
  number_is = let e : number ≡ length old.done = old.number_is in omega (arith, length-append old.done (line ∷ []));
  all = old.all;
  are = one_good reading 0 old.done line old.all old.are good;
  few = let f : length old.all ≤ length old.done = old.few in omega (arith, length-append old.done (line ∷ []));
  first = (items ∙ old.first.0, count ∙ old.first.1);
}
find_on reading whole rest later line number before after split (inr (bad, is, count, items)) old = record {
  done = old.done ++ line ∷ [];
  split = old.split ∙ ap (λ r. old.done ++ r) split ∙ sym (append_assoc old.done (line ∷ []) later);
  number_is = let e : number ≡ length old.done = old.number_is in omega (arith, length-append old.done (line ∷ []));
  all = old.all ++ bad ∷ [];
  are = let e : number + 1 ≡ 0 + length old.done + 1 = omega (arith, old.number_is) in one_bad reading 0 old.done line old.all bad old.are (subst (λ k. IsBadLine reading k line bad) e is);
  few = let f : length old.all ≤ length old.done = old.few in omega (arith, length-append old.done (line ∷ []), length-append old.all (bad ∷ []));
  first = first_more before after old.all bad old.first count items;
}

pub find_end : (reading : Reading) (whole rest : List (List ℕ)) (number : ℕ) (found : FoundBadLines) → rest ≡ [] → FindsSoFar reading whole rest number found
    → (all : List BadLine) × AreBadLines reading 0 whole all × AreFirstOf found all
find_end reading whole rest number found none old =
    let is : old.done ≡ whole = sym (old.split ∙ ap (λ r. old.done ++ r) none ∙ append-nil old.done) in
    (old.all, subst (λ lines. AreBadLines reading 0 lines old.all) is old.are, old.first)
