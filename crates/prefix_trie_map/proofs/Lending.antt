-- A map is still a map after one of its values is overwritten: for the calls that lend a value.
use Rattle.prefix_trie_map.proofs.Prelude.{◌≡◌, ℕ, Bool, true, false, List, Option, None, Some, if◌then◌else◌, is_some, MatchOption, IfSome, refl, sym, ap, ◌∙◌, subst, inl, inr, get, contains_key, option_map, option_copied_mut, ghost_name_of, IsMap, longest_match, prefix_pair, match_laws, AreNodes-stored, key_cases, Contents, with_value_at, with_stored_at, with_match_at, with_longest_at, lent_beside, state, lent_item_mut}
use borrow.Follows.Closed.{read_of}
use Rattle.std.specs.Borrow.{MutBor}

module _ {T : Type 0} (width : ℕ) (m : Contents T) (good : IsMap width (state m)) where
  -- setting a stored key again leaves a map
  pub set_again : (k : List Bool) (x : T) → contains_key m.entries k ≡ true → IsMap width (state (with_value_at m k x))
  set_again k x has = record {
    keys_within = λ q h. elim (key_cases m.entries k q x h) [
      | inl is ↦ good.keys_within q (ap (contains_key m.entries) is ∙ has)
      | inr old ↦ good.keys_within q old
    ];
    are_nodes = AreNodes-stored width m.entries m.nodes k x good.are_nodes has;
  }

  module _ (q : List Bool) (x : T) where
    at_stored : (b : Bool) → contains_key m.entries q ≡ b → IsMap width (state (if b then with_value_at m q x else m))
    at_stored true has = set_again q x has
    at_stored false has = good

    -- overwriting the value at a path, if there is one, leaves a map
    pub IsMap-with_stored_at : IsMap width (state (with_stored_at m q x))
    IsMap-with_stored_at = at_stored (contains_key m.entries q) refl

    at_match : (o : Option (List Bool × T)) → longest_match m.entries q ≡ o → IsMap width (state (with_match_at m o x))
    at_match None is = good
    at_match (Some e) is = set_again e.0 x (ap is_some (((match_laws T).longest_is m.entries q e).0 is).matches.stored)

    -- overwriting the value of the longest match, if there is one, leaves a map
    pub IsMap-with_longest_at : IsMap width (state (with_longest_at m q x))
    IsMap-with_longest_at = at_match (longest_match m.entries q) refl

-- a value is lent only if one is stored at the path
pub stored_lent : {T : Type 0} (m : Contents T) (q : List Bool) (r : Option (MutBor T)) → option_copied_mut r ≡ get m.entries q →
    read_of (ghost_name_of r) (with_stored_at m q) m ≡ read_of (ghost_name_of r) (with_value_at m q) m
stored_lent m q None e = refl
stored_lent m q (Some lent) e =
    let stored : contains_key m.entries q ≡ true = ap is_some (sym e) in
    λ i. inl (lent.ghost_name, λ x. if stored i then with_value_at m q x else m)

-- a value that is lent for a match, and the match itself
pub match_parts : {T : Type 0} (B : Type 0) (found : Option (List Bool × T)) (key : List Bool) (o : Option (MutBor T)) →
    MatchOption o (found ≡ None) (λ value. B × (found ≡ Some (key, value.now))) →
    MatchOption o (found ≡ None) (λ value. found ≡ Some (key, value.now)) × IfSome o (λ value. B)
match_parts B found key None none = (none, tt)
match_parts B found key (Some value) some = (some.1, some.0)

-- the value that is lent for a match is the value of the match
pub lent_value : {T : Type 0} (found : Option (List Bool × T)) (key : List Bool) (o : Option (MutBor T)) →
    MatchOption o (found ≡ None) (λ value. found ≡ Some (key, value.now)) → option_copied_mut o ≡ option_map (λ e. e.1) found
lent_value found key None none = ap (option_map (λ e. e.1)) (sym none)
lent_value found key (Some value) some = ap (option_map (λ e. e.1)) (sym some)

module _ {P T : Type 0} (back : List Bool → P) (found : Option (List Bool × T)) (key : List Bool) where
  -- the value is lent beside the prefix of its key
  shown_beside : (answer : Option (P × MutBor T)) → IfSome answer (λ f. f.0 ≡ back key) →
      MatchOption (lent_beside answer) (found ≡ None) (λ value. found ≡ Some (key, value.now)) →
      option_map lent_item_mut answer ≡ prefix_pair back found
  shown_beside None shown none = ap (prefix_pair back) (sym none)
  shown_beside (Some f) shown is = ap (λ p. Some (p, f.1.now)) shown ∙ ap (prefix_pair back) (sym is)

  pub lent_shown : (o : Option (MutBor T)) (answer : Option (P × MutBor T)) → lent_beside answer ≡ o → IfSome answer (λ f. f.0 ≡ back key) →
      MatchOption o (found ≡ None) (λ value. found ≡ Some (key, value.now)) →
      option_map lent_item_mut answer ≡ prefix_pair back found
  lent_shown o answer lent shown is =
      shown_beside answer shown (subst (λ v. MatchOption v (found ≡ None) (λ value. found ≡ Some (key, value.now))) (sym lent) is)
