-- Results that are written one by one are the results of all addresses.
use Rattle.std.proofs.Common.{◌≡◌, ◌∙◌, ◌<◌, ◌≤◌, ℕ, List, length, get_or, map, arith, sym}
use Rattle.std.proofs.lemmas.List.{get_or-map, length-map, same_lists}
use Rattle.prefix_trie_fib.proofs.RangeValues.{item_at}

module _ {K X : Type 0} (f : K → X) (keys : List K) (xs : List X) (i : ℕ) where
  pub results_are : length xs ≡ length keys → length keys ≤ i → ((k : ℕ) (d : K) (v : X) → k < i → get_or xs k v ≡ f (get_or keys k d)) → xs ≡ map f keys
  results_are long all so_far = same_lists xs (map f keys) (let l = length-map keys f in omega (arith, long, l)) (λ k v lt.
      let inside : k < length keys = omega (arith, lt, long) in
      let d = item_at keys k inside in
      so_far k d v (omega (arith, inside, all)) ∙ sym (get_or-map f keys k d v inside))
