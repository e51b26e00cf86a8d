-- What rebuilding a map part by part leaves. This project's own.
use Rattle.std.specs.Prelude.{◌≡◌, ℕ, ◌≤◌, ◌+◌, ◌&&◌, Bool, true, false, not, cond, nat_lt, List, [], ◌∷◌, ◌++◌, length, filter, Option, Some, None}
use Rattle.std.specs.Ordering.{is_eq, is_lt}
use Rattle.std.specs.Option.{option_or}
use Rattle.std.specs.declared.cmp.Ordering.{Ordering}
use Rattle.std.specs.FinMap.{get, len}
use Rattle.prefix_trie.specs.Terms.{Entries, begins, listing, listing_cmp}
use Rattle.prefix_trie_ops.specs.Parts.{least}
use Rattle.prefix_trie_ops.specs.Values.{are_equal}

module _ {T : Type 0} where
  -- the pairs whose keys are after s and do not begin with s
  abbrev pub listing_past : Entries T → List Bool → List (List Bool × T)
  listing_past m s = filter (λ e. is_lt (listing_cmp s e.0) && not (begins s e.0)) (listing m)

  -- no key begins with s
  abbrev pub HasNoneBelow : Entries T → List Bool → Type 0
  HasNoneBelow m s = (t : List Bool) → begins s t ≡ true → get m t ≡ None

  -- the longest-match value of the question s ++ r, if keys shorter than s give the value `above`
  abbrev pub value_along : (List Bool → Option T) → Option T → List Bool → List Bool → Option T
  value_along value above s [] = option_or (value s) above
  value_along value above s (b ∷ r) = value_along value (option_or (value s) above) (s ++ b ∷ []) r

  -- whether the entry at s ++ r has the value that the shorter keys give it
  abbrev pub is_repeated_along : (T → T → Bool) → (List Bool → Option T) → Option T → List Bool → List Bool → Bool
  is_repeated_along eq value above s [] = are_equal eq above (value s)
  is_repeated_along eq value above s (b ∷ r) = is_repeated_along eq value (option_or (value s) above) (s ++ b ∷ []) r

  -- A map is changed only under s, where n bits are left. There each full-width question has the longest-match value that
  -- it has in another map, no entry has the value that shorter keys give it, and no more entries are added than a table
  -- with these values needs.
  pub record Rebuilds (eq : T → T → Bool) (cmp : T → T → Ordering) (n : ℕ) (source : Entries T) (s : List Bool) (inherited held : Option T) (before after : Entries T) : Type 0 where
    pub beside : (t : List Bool) → begins s t ≡ false → get after t ≡ get before t
    pub values : (r : List Bool) → length r ≡ n → value_along (get after) held s r ≡ value_along (get source) inherited s r
    pub none_repeated : (r : List Bool) → is_repeated_along eq (get after) held s r ≡ false
    pub cost : len after ≤ len before + least eq cmp n (value_along (get source) inherited s) held

module _ {P T : Type 0} (path : P → List Bool) where
  -- the value of the first item, if its prefix has this path
  abbrev pub first_value_at : List Bool → List (P × T) → Option T
  first_value_at s [] = None
  first_value_at s (e ∷ es) = cond (is_eq (listing_cmp s (path e.0))) (Some e.1) None

  -- the items, without the first if its prefix has this path
  abbrev pub items_after : List Bool → List (P × T) → List (P × T)
  items_after s [] = []
  items_after s (e ∷ es) = cond (is_eq (listing_cmp s (path e.0))) es (e ∷ es)

  -- whether the prefix of the first item is longer than this path and begins with it
  abbrev pub is_first_below : List Bool → List (P × T) → Bool
  is_first_below s [] = false
  is_first_below s (e ∷ es) = nat_lt (length s) (length (path e.0)) && begins s (path e.0)
