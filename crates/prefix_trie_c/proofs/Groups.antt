-- How the results of one group are written after those of the groups before.
use Rattle.std.proofs.Common.{◌≡◌, ℕ, ◌+◌, ◌-◌, ◌≤◌, List, ◌++◌, length, map, take, drop, slice_range, ap, ap₂, subst, sym, ◌∙◌, arith}
use Rattle.std.proofs.Math.Seq.{take-add, take-append_seam}
use Rattle.std.proofs.lemmas.List.{length-append, length-drop, length-map, length-take-le, map-append}
use Rattle.std.proofs.lemmas.Simd.{map-map}

module _ {A X : Type 0} (f : A → X) (all : List A) (found : List X) (from count : ℕ) (fits : from + count ≤ length all) (is : found ≡ map f (slice_range all from (from + count))) where
  group : found ≡ map f (take count (drop from all))
  group =
      let many : from + count - from ≡ count = omega arith in
      is ∙ ap (λ k. map f (take k (drop from all))) many

  size : length found ≡ count
  size = ap length group ∙ length-map (take count (drop from all)) f ∙ length-take-le count (drop from all) (omega (arith, length-drop from all, fits))

  -- the array for what is found is as long as before
  pub array_long : (array : List X) → count ≤ length array → length (found ++ drop count array) ≡ length array
  array_long array less = length-append found (drop count array) ∙ omega (arith, size, length-drop count array, less)

  -- the results of the addresses up to the end of the group
  pub group_written : {R : Type 0} (make : X → R) (old new : List R) (rest : List X) → take from old ≡ map (λ a. make (f a)) (take from all)
      → take (from + length (take count (found ++ rest))) new ≡ take from old ++ map make (take count (found ++ rest))
      → take (from + count) new ≡ map (λ a. make (f a)) (take (from + count) all)
  group_written {R} make old new rest before written =
      let front : take count (found ++ rest) ≡ found = ap (λ k. take k (found ++ rest)) (sym size) ∙ take-append_seam found rest in
      let done : take (from + length found) new ≡ take from old ++ map make found = subst (λ fs. take (from + length fs) new ≡ take from old ++ map make fs) front written in
      ap (λ k. take (from + k) new) (sym size) ∙ done
      ∙ ap₂ (λ rs xs. rs ++ map make xs) before group
      ∙ ap (λ rs. map (λ a. make (f a)) (take from all) ++ rs) (map-map make f (take count (drop from all)))
      ∙ sym (map-append (λ a. make (f a)) (take from all) (take count (drop from all))) ∙ ap (map (λ a. make (f a))) (sym (take-add from count all))
