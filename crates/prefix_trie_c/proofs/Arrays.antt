-- How an array is filled from a walk: what was read so far, one more item, and the two ways to end.
use Rattle.std.proofs.Common.{◌≡◌, ℕ, ◌+◌, ◌<◌, ◌≤◌, List, [], ◌∷◌, ◌++◌, length, map, set, take, drop, ap, sym, ◌∙◌, refl, arith}
use Rattle.std.proofs.lemmas.Grind.{drop_more_same}
use Rattle.std.proofs.lemmas.List.{append_assoc, append-nil, drop-set-lt, length-append, map-append, take-append-drop, take_all, take_at, take_more_set}

-- the array begins with what was read, its other places are as they were, and the walk has the rest
pub record Reads {X E : Type 0} (f : X → E) (all walk : List X) (i : ℕ) (old out : List E) : Type 0 where
  pub read : List X
  pub rest : all ≡ read ++ walk
  pub count : length read ≡ i
  pub written : take i out ≡ map f read
  pub kept : drop i out ≡ drop i old

module _ {X E : Type 0} {f : X → E} {all walk : List X} {out : List E} where
  pub reads_none : walk ≡ all → Reads f all walk 0 out out
  reads_none e = record { read = []; rest = sym e; count = refl; written = refl; kept = refl }

  module _ {i : ℕ} {old : List E} (r : Reads f all walk i old out) where
    pub reads_more : {x : X} {new : List X} {y : E} → walk ≡ x ∷ new → y ≡ f x → i < length out → Reads f all new (i + 1) old (set out i y)
    reads_more {x = x} {new = new} {y = y} e is l = record {
      read = r.read ++ x ∷ [];
      rest = r.rest ∙ ap (λ w. r.read ++ w) e ∙ sym (append_assoc r.read (x ∷ []) new);
      count = length-append r.read (x ∷ []) ∙ ap (λ k. k + 1) r.count;
      written = take_more_set out i y l ∙ ap (λ w. w ++ y ∷ []) r.written ∙ ap (λ z. map f r.read ++ z ∷ []) is ∙ sym (map-append f r.read (x ∷ []));
      kept = drop-set-lt (i + 1) out i y (omega arith) ∙ drop_more_same out old i r.kept;
    }

    -- the array is what was read, and then its other places as they were
    whole : {read : List X} {count : ℕ} → read ≡ r.read → i ≡ count → out ≡ map f read ++ drop count old
    whole {read = read} is here =
        sym (take-append-drop i out) ∙ ap (λ w. w ++ drop i out) r.written ∙ ap (λ w. map f r.read ++ w) r.kept
        ∙ ap (λ w. map f w ++ drop i old) (sym is) ∙ ap (λ k. map f read ++ drop k old) here

    -- the walk has ended
    pub reads_to_end : (n : ℕ) → walk ≡ [] → i ≤ n → (out ≡ map f (take n all) ++ drop i old) × (i ≡ length (take n all))
    reads_to_end n e l =
        let end : all ≡ r.read = r.rest ∙ ap (λ w. r.read ++ w) e ∙ append-nil r.read in
        let kept : take n all ≡ r.read = ap (take n) end ∙ take_all n r.read (omega (arith, r.count)) in
        (whole kept refl, sym r.count ∙ ap length (sym kept))

    -- the array is full
    pub reads_full : {n count : ℕ} → i ≡ n → count ≡ n → (out ≡ map f (take n all) ++ drop count old) × (count ≡ length (take n all))
    reads_full {n = n} {count = count} is same =
        let kept : take n all ≡ r.read = ap (take n) r.rest ∙ take_at r.read walk n (r.count ∙ is) in
        let here : i ≡ count = is ∙ sym same in
        (whole kept here, sym (r.count ∙ here) ∙ ap length (sym kept))
