-- The places of a node that two masks leave list what is under a bit string.
use Rattle.prefix_trie_table.proofs.Prelude.{◌≡◌, ◌↔◌, ℕ, ◌+◌, ◌<◌, ◌≤◌, Bool, true, false, ◌&&◌, List, [], ◌++◌, length, filter, Option, Some, None, is_some, refl, sym, ap, ◌∙◌, arith, bit_and, length-append, false≢true, begins, HoldsValues, HoldsChildren, is_in, places, home, listing_at_places, listing, listing_below, State, home-depth, home-length, listing_below_none, Node, Below, chunks_of, read, Store, IsTrie}
use Rattle.std.specs.List.{Contains}
use Rattle.prefix_trie_table.proofs.Strings.SmallFacts.{no_or_yes}
use Rattle.prefix_trie_table.proofs.Removal.AllBelow.{below_none, home_near, home_goes_on, in_both}
use Rattle.prefix_trie_table.proofs.Tree.Subtrees.{nothing_below, unset}
use Rattle.prefix_trie_table.proofs.Walk.Selections.{at_some_places, wanted_ended}

filter_alike : {X : Type 0} (f g : X → Bool) → ((x : X) → f x ≡ g x) → (xs : List X) → filter f xs ≡ filter g xs
filter_alike f g same xs = λ i. filter (λ x. same x i) xs

-- two tests of which the second implies the first are together the second
both_tests : (a b : Bool) → (b ≡ true → a ≡ true) → (a && b) ≡ b
both_tests true b h = refl
both_tests false true h = absurd (false≢true (h refl))
both_tests false false h = refl

module _ {T : Type 0} (width count : ℕ) (v : Store Node) (w : Store (Option T)) (before : State T) (trie : IsTrie width count v w before) (q rest : List Bool)
    (is : q ≡ home q ++ rest) (n : Node) (is_there : read v.slots (chunks_of (home q)) ≡ Some n) (values children : ℕ) (holds_values : HoldsValues values (begins rest))
    (holds_children : HoldsChildren children (begins rest)) (ts : List (List Bool))
    (each : (u : List Bool) → Contains ts u ↔ ((length u ≤ 5) × (is_in (bit_and n.value_bitmap values) (bit_and n.child_bitmap children) u ≡ true)))
    (all : ts ≡ places (bit_and n.value_bitmap values) (bit_and n.child_bitmap children)) where
  short : length rest < 5
  short =
      let near = home_near (length q) (length (home q)) (home-length q) in
      let l : length q ≡ length (home q) + length rest = ap length is ∙ length-append (home q) rest in
      omega (arith, near, l)

  pub listed_below : listing_at_places before.entries (home q) ts ≡ listing_below before.entries q
  listed_below =
      ap (listing_at_places before.entries (home q)) all
      ∙ at_some_places before.entries (home q) (begins rest) (is_in (bit_and n.value_bitmap values) (bit_and n.child_bitmap children)) (is_in n.value_bitmap n.child_bitmap)
      (in_both width count v w before trie q rest is n is_there values children holds_values holds_children ts each)
      (unset width v (record { count = count; cells = w; shape = before }) trie (home q) n (home-depth q) is_there)
      ∙ sym (wanted_ended Below before.entries (home q) rest short)
      ∙ ap (λ p. filter (λ e. begins (home q) e.0 && begins p e.0) (listing before.entries)) (sym is)
      ∙ filter_alike (λ e. begins (home q) e.0 && begins q e.0) (λ e. begins q e.0) (λ e. both_tests (begins (home q) e.0) (begins q e.0) (home_goes_on q e.0)) (listing before.entries)

-- below a string whose node is missing nothing is listed
pub none_listed : {T : Type 0} (width count : ℕ) (v : Store Node) (w : Store (Option T)) (s : State T) (q : List Bool) → IsTrie width count v w s →
    read v.slots (chunks_of (home q)) ≡ None → listing_below s.entries q ≡ []
none_listed width count v w s q trie missing =
    let none : listing_below s.entries (home q) ≡ [] = nothing_below width v (record { count = count; cells = w; shape = s }) trie (home q) (home-depth q) missing in
    listing_below_none s.entries q (λ k has. no_or_yes (begins q k) (λ e.
    false≢true (sym (ap is_some (below_none s.entries (home q) k none (home_goes_on q k e))) ∙ has)))
