-- A step of a walk of two maps gives the first item of their union, or of their common keys: for `union` and `intersection`.
use Rattle.std.proofs.Common.{◌≡◌, ◌∙◌, ◌||◌, ◌&&◌, ◌⊎◌, inl, inr, List, Bool, ◌∷◌, Option, Some, None, Bor, is_some, ap, ap₂, sym, refl}
use Rattle.std.specs.FinMap.{get}
use Rattle.std.specs.Option.{option_copied, option_map}
use Rattle.prefix_trie.specs.Terms.{Entries, GivesItem, IsCombination, prefix_pairs}
use Rattle.prefix_trie_ops.specs.Combining.{both_values, common}
use Rattle.prefix_trie_ops.specs.Merging.{lent_side, lent_values, sides, union_of}
use Rattle.prefix_trie_ops.specs.declared.map.sides.Side.{Side}
use Rattle.prefix_trie_table.specs.declared.table.combined_spot.Combination.TheVariants.{Union, Intersection}
use Rattle.prefix_trie_ops.proofs.Merging.{get_union}
use Rattle.prefix_trie_ops.proofs.Pairs.{get_common}

sides_some : {T U : Type 0} (a : Option T) (b : Option U) → is_some (sides a b) ≡ (is_some a || is_some b)
sides_some None None = refl
sides_some None (Some w) = refl
sides_some (Some v) None = refl
sides_some (Some v) (Some w) = refl

values_some : {T U : Type 0} (a : Option T) (b : Option U) → is_some (both_values a b) ≡ (is_some a && is_some b)
values_some None w = refl
values_some (Some v) None = refl
values_some (Some v) (Some w) = refl

module _ {T U : Type 0} (m : Entries T) (n : Entries U) where
  pub union_combines : IsCombination Union m n (union_of m n)
  union_combines = λ s. ap is_some (get_union m n s) ∙ sides_some (get m s) (get n s)

  pub common_combines : IsCombination Intersection m n (common m n)
  common_combines = λ s. ap is_some (get_common n m s) ∙ values_some (get m s) (get n s)

module _ {P T U X : Type 0} (back : List Bool → P) (m : Entries T) (n : Entries U) (both : Entries X) (item : P × Option (Bor T) × Option (Bor U)) (old new : List (List Bool × X))
    (h : GivesItem back m n both item old new) (f : Option T → Option U → Option X) (is : get both h.path ≡ f (get m h.path) (get n h.path)) where
  -- the value of the item is made of those of the two maps
  made : f (option_copied item.1) (option_copied item.2) ≡ Some h.value
  made = ap₂ f h.on_left h.on_right ∙ sym is ∙ h.stored

  pub first_item : (x : X) → f (option_copied item.1) (option_copied item.2) ≡ Some x → prefix_pairs back old ≡ (item.0, x) ∷ prefix_pairs back new
  first_item x e =
      let both_made : Some h.value ≡ Some x = sym made ∙ e in
      let same : h.value ≡ x = cc in
      ap (prefix_pairs back) h.first ∙ ap₂ (λ p v. (p, v) ∷ prefix_pairs back new) (sym h.prefix_is) same

-- what is lent of two values, and of what two maps have at a key
sides_lent : {T U : Type 0} (a : Option (Bor T)) (b : Option (Bor U)) → sides (option_copied a) (option_copied b) ≡ option_map lent_values (sides a b)
sides_lent None None = refl
sides_lent None (Some w) = refl
sides_lent (Some v) None = refl
sides_lent (Some v) (Some w) = refl

module _ {P T U : Type 0} (back : List Bool → P) (m : Entries T) (n : Entries U) (item : P × Option (Bor T) × Option (Bor U)) (old new : List (List Bool × Side T U)) (h : GivesItem back m n (union_of m n) item old new) where
  -- a key of the union is in one of the two maps
  pub union_some : sides item.1 item.2 ≡ None → ⊥
  union_some none =
      let absent : None ≡ Some h.value = sym (ap (option_map lent_values) none) ∙ sym (sides_lent item.1 item.2) ∙ made back m n (union_of m n) item old new h sides (get_union m n h.path) in cc

  -- and has there what the two maps have
  pub union_first : (side : Side (Bor T) (Bor U)) → sides item.1 item.2 ≡ Some side → prefix_pairs back old ≡ lent_side (item.0, side) ∷ prefix_pairs back new
  union_first side is =
      first_item back m n (union_of m n) item old new h sides (get_union m n h.path) (lent_values side) (sides_lent item.1 item.2 ∙ ap (option_map lent_values) is)

module _ {P T U : Type 0} (back : List Bool → P) (m : Entries T) (n : Entries U) (item : P × Option (Bor T) × Option (Bor U)) (old new : List (List Bool × (T × U))) (h : GivesItem back m n (common m n) item old new) where
  -- a common key is in both maps
  pub common_some : (option_copied item.1 ≡ None) ⊎ (option_copied item.2 ≡ None) → ⊥
  common_some none = let absent : None ≡ Some h.value = sym (missing none) ∙ made back m n (common m n) item old new h both_values (get_common n m h.path) in cc
    where
      missing : (option_copied item.1 ≡ None) ⊎ (option_copied item.2 ≡ None) → both_values (option_copied item.1) (option_copied item.2) ≡ None
      missing (inl e) = ap (λ a. both_values a (option_copied item.2)) e
      missing (inr e) = ap (both_values (option_copied item.1)) e ∙ no_pair (option_copied item.1)
        where
          no_pair : (o : Option T) → both_values {T = T} {U = U} o None ≡ None
          no_pair None = refl
          no_pair (Some v) = refl

  -- and has both values
  pub common_first : (v : Bor T) (w : Bor U) → item.1 ≡ Some v → item.2 ≡ Some w → prefix_pairs back old ≡ (item.0, (v.now, w.now)) ∷ prefix_pairs back new
  common_first v w left right =
      first_item back m n (common m n) item old new h both_values (get_common n m h.path) (v.now, w.now) (ap₂ (λ a b. both_values (option_copied a) (option_copied b)) left right)
