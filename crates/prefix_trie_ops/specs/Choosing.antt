-- The sets of values that `aggregate` chooses from. This project's own.
use Rattle.std.specs.Prelude.{◌≡◌, ℕ, zero, suc, Bool, true, false, cond, List, [], ◌∷◌, ◌++◌, drop, Option}
use Rattle.std.specs.declared.cmp.Ordering.{Ordering}
use Rattle.std.specs.FinMap.{get}
use Rattle.std.specs.List.{AllZip}
use Rattle.std.specs.Option.{option_or}
use Rattle.prefix_trie.specs.Terms.{Entries, listing_after}
use Rattle.prefix_trie_ops.specs.declared.map.optimal.choosing.Choices.{Choices}
use Rattle.prefix_trie_ops.specs.declared.map.optimal.sets.Set.{Set}
use Rattle.prefix_trie_ops.specs.Optimal.{is_first_below, value_along}
use Rattle.prefix_trie_ops.specs.Parts.{first_values}
use Rattle.prefix_trie_ops.specs.ValueSets.{Appends, Holds}

module _ {T : Type 0} (eq : T → T → Bool) (cmp : T → T → Ordering) where
  -- the first values of each part at and under s that has longer keys, in the order of a walk from the top: n bits are left
  unfoldable pub part_values : Entries T → ℕ → List Bool → Option T → List (List T)
  part_values source zero s inherited = []
  part_values source (suc n) s inherited = cond (is_first_below (λ t. t) s (listing_after source s))
      (first_values eq cmp (suc n) (value_along (get source) inherited s)
      ∷ (part_values source n (s ++ false ∷ []) (option_or (get source s) inherited) ++ part_values source n (s ++ true ∷ []) (option_or (get source s) inherited)))
      []

  -- The sets of the parts at and under s are appended to a vector of sets, and their values to a vector of values. The
  -- set has the first values of the part at s.
  pub record Chooses (source : Entries T) (n : ℕ) (s : List Bool) (inherited : Option T) (sets_before sets_after : List (Set T)) (before after : List T) (set : Set T) : Type 0 where
    pub more : List (Set T)
    pub listed : sets_after ≡ sets_before ++ more
    pub parts : AllZip (Holds after) more (part_values source n s inherited)
    pub appends : Appends before after set (first_values eq cmp n (value_along (get source) inherited s))

-- the sets that are still to be taken have these values
abbrev pub AreToCome : {T B : Type 0} → Choices T B → List (List T) → Type 0
AreToCome choices xss = AllZip (Holds choices.values.items) (drop choices.next choices.sets.items) xss
