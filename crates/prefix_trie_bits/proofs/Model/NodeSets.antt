-- The laws of the needed nodes, and how setting or removing a key changes them: for `node_laws`.
use Rattle.prefix_trie_bits.proofs.Prelude.{◌≡◌, ◌≢◌, ◌↔◌, ◌⊎◌, ℕ, ◌%◌, ◌≤◌, Bool, true, ◌&&◌, ◌||◌, List, [], ◌∷◌, length, is_some, refl, sym, ap, ◌∙◌, subst, arith, inl, inr, true≢false, eqb-true, eq-eqb, and_comm, or_comm, contains_key, get-empty, begins, begins-length, begins-refl, begins-trans, listing_cmp, same_string, Entries, AreWithin, no_entries, with_entry, without_entry, Nodes, has_node, root_alone, is_node_depth, nodes_above, home, with_needed, needed, AreNodes, IsTidy, IsHome, BeginsKey, NodeLaws}
use Rattle.prefix_trie_bits.proofs.Model.Homes.{home-begins, home-depth, home-longest}
use Rattle.prefix_trie_bits.proofs.Model.Members.{or-cases, or-left, or-right, and-first, and-second, and-join, same_string-is, is-same_string, has-inserted, has-with_nodes, has-root_alone, any-node_above, needs, needs_root, needed_for, same_nodes}
use Rattle.prefix_trie_bits.proofs.Model.Pruning.{for_fewer, removed_fewer, too_long}

-- after an insertion the nodes are the old ones and those on the key's search path
pub has-with_needed : (n : Nodes) (s t : List Bool) → has_node (with_needed n s) t ≡ (has_node n t || (begins t s && is_node_depth t))
has-with_needed n s t =
    has-with_nodes n (nodes_above s) t
    ∙ ap (λ b. b || has_node n t) (any-node_above t s ∙ and_comm (is_node_depth t) (begins t s))
    ∙ or_comm (begins t s && is_node_depth t) (has_node n t)

in_old : (n : Nodes) (s q : List Bool) → has_node n q ≡ true → has_node (with_needed n s) q ≡ true
in_old n s q e = has-with_needed n s q ∙ or-left (has_node n q) (begins q s && is_node_depth q) e

in_new : (n : Nodes) (s q : List Bool) → length q % 5 ≡ 0 → begins q s ≡ true → has_node (with_needed n s) q ≡ true
in_new n s q five b = has-with_needed n s q ∙ or-right (has_node n q) (begins q s && is_node_depth q) (and-join (begins q s) (is_node_depth q) b (eq-eqb (length q % 5) 0 five))

record OnPath (s q : List Bool) : Type 0 where
  five : length q % 5 ≡ 0
  begins_it : begins q s ≡ true

which : (n : Nodes) (s q : List Bool) → has_node (with_needed n s) q ≡ true → (OnPath s q) ⊎ (has_node n q ≡ true)
which n s q e =
    elim (or-cases (has_node n q) (begins q s && is_node_depth q) (sym (has-with_needed n s q) ∙ e)) [
      | inl h ↦ inr h
      | inr h ↦ inl (record { five = eqb-true (length q % 5) 0 (and-second (begins q s) (is_node_depth q) h); begins_it = and-first (begins q s) (is_node_depth q) h })
    ]

module _ {T : Type 0} where
  -- each key of the map with s is s or was there before
  pub key_cases : (m : Entries T) (s k : List Bool) (v : T) → contains_key (with_entry m s v) k ≡ true → (k ≡ s) ⊎ (contains_key m k ≡ true)
  key_cases m s k v e =
      elim (or-cases (same_string k s) (contains_key m k) (sym (has-inserted m s v k) ∙ e)) [
        | inl h ↦ inl (same_string-is k s h)
        | inr h ↦ inr h
      ]

  old_key : (m : Entries T) (s k : List Bool) (v : T) → contains_key m k ≡ true → contains_key (with_entry m s v) k ≡ true
  old_key m s k v e = has-inserted m s v k ∙ or-right (same_string k s) (contains_key m k) e

  new_key : (m : Entries T) (s : List Bool) (v : T) → contains_key (with_entry m s v) s ≡ true
  new_key m s v = has-inserted m s v s ∙ or-left (same_string s s) (contains_key m s) (is-same_string s s refl)

  -- each node that the map with s needs is on the search path of s or was needed before
  needed_with : (m : Entries T) (s q : List Bool) (v : T) → has_node (needed (with_entry m s v)) q ≡ true → (OnPath s q) ⊎ (has_node (needed m) q ≡ true)
  needed_with m s q v e =
      elim (needed_for (with_entry m s v) q e) [
        | inl root ↦ inr (subst (λ x. has_node (needed m) x ≡ true) (sym root) (needs_root m))
        | inr why ↦ elim (key_cases m s why.key v why.stored) [
          | inl is ↦ inl (record { five = why.five; begins_it = subst (λ x. begins q x ≡ true) is why.begins_it })
          | inr old ↦ inr (needs m q why.key why.five old why.begins_it)
        ]
      ]

  -- the node set stays correct when a key is set and its missing nodes are added
  pub AreNodes-with_entry : (width : ℕ) (m : Entries T) (n : Nodes) (s : List Bool) (v : T) → AreNodes width m n → length s ≤ width → AreNodes width (with_entry m s v) (with_needed n s)
  AreNodes-with_entry width m n s v good short = record {
    within = λ q e. elim (which n s q e) [ inl w ↦ omega (arith, begins-length q s w.begins_it, short) | inr h ↦ good.within q h ];
    depths = λ q e. elim (which n s q e) [ inl w ↦ w.five | inr h ↦ good.depths q h ];
    rooted = in_old n s [] good.rooted;
    closed = λ r q e b five. elim (which n s q e) [
      | inl w ↦ in_new n s r five (begins-trans r q s b w.begins_it)
      | inr h ↦ in_old n s r (good.closed r q h b five)
    ];
    hold_needed = λ q e. elim (needed_with m s q v e) [
      | inl w ↦ in_new n s q w.five w.begins_it
      | inr h ↦ in_old n s q (good.hold_needed q h)
    ];
  }

  stored_same : (m : Entries T) (s q : List Bool) (v : T) → contains_key m s ≡ true → has_node (needed (with_entry m s v)) q ≡ true → has_node (needed m) q ≡ true
  stored_same m s q v has e = elim (needed_with m s q v e) [ inl w ↦ needs m q s w.five has w.begins_it | inr h ↦ h ]

  -- the node set stays correct when a stored key is set again and no node is added
  pub AreNodes-stored : (width : ℕ) (m : Entries T) (n : Nodes) (s : List Bool) (v : T) → AreNodes width m n → contains_key m s ≡ true → AreNodes width (with_entry m s v) n
  AreNodes-stored width m n s v good has = record { within = good.within; depths = good.depths; rooted = good.rooted; closed = good.closed; hold_needed = λ q e. good.hold_needed q (stored_same m s q v has e) }

  -- the node set stays correct when a key is removed and no node is
  pub AreNodes-without_entry : (width : ℕ) (m : Entries T) (n : Nodes) (s : List Bool) → AreNodes width m n → AreNodes width (without_entry m s) n
  AreNodes-without_entry width m n s good = for_fewer width m (without_entry m s) n (removed_fewer m s) good

  more_needed : (m : Entries T) (s q : List Bool) (v : T) → has_node (needed m) q ≡ true → has_node (needed (with_entry m s v)) q ≡ true
  more_needed m s q v e =
      elim (needed_for m q e) [
        | inl root ↦ subst (λ x. has_node (needed (with_entry m s v)) x ≡ true) (sym root) (needs_root (with_entry m s v))
        | inr why ↦ needs (with_entry m s v) q why.key why.five (old_key m s why.key v why.stored) why.begins_it
      ]

  pub needed_insert : (m : Entries T) (s : List Bool) (v : T) → with_needed (needed m) s ≡ needed (with_entry m s v)
  needed_insert m s v =
      same_nodes (with_needed (needed m) s) (needed (with_entry m s v))
      (λ q e. elim (which (needed m) s q e) [ inl w ↦ needs (with_entry m s v) q s w.five (new_key m s v) w.begins_it | inr h ↦ more_needed m s q v h ])
      (λ q e. elim (needed_with m s q v e) [ inl w ↦ in_new (needed m) s q w.five w.begins_it | inr h ↦ in_old (needed m) s q h ])

  pub needed_stored : (m : Entries T) (s : List Bool) (v : T) → contains_key m s ≡ true → needed m ≡ needed (with_entry m s v)
  needed_stored m s v has = same_nodes (needed m) (needed (with_entry m s v)) (λ q. more_needed m s q v) (λ q. stored_same m s q v has)

  -- the nodes that the keys need are a correct node set, if all keys are within the width
  pub AreNodes-needed : (width : ℕ) (m : Entries T) → AreWithin width m → AreNodes width m (needed m)
  AreNodes-needed width m within = record {
    within = λ s e. elim (needed_for m s e) [
      | inl root ↦ omega (arith, ap length root)
      | inr why ↦ omega (arith, begins-length s why.key why.begins_it, within why.key why.stored)
    ];
    depths = λ s e. elim (needed_for m s e) [
      | inl root ↦ ap (λ x. length x % 5) root
      | inr why ↦ why.five
    ];
    rooted = needs_root m;
    closed = λ s t e b five. elim (needed_for m t e) [
      | inl root ↦ subst (λ x. has_node (needed m) x ≡ true) (sym (only_root s t b root)) (needs_root m)
      | inr why ↦ needs m s why.key five why.stored (begins-trans s t why.key b why.begins_it)
    ];
    hold_needed = λ s e. e;
  }
    where
      only_root : (s t : List Bool) → begins s t ≡ true → t ≡ [] → s ≡ []
      only_root [] t b e = refl
      only_root (x ∷ s) t b e = absurd (too_long x s (subst (λ y. begins (x ∷ s) y ≡ true) e b))

  -- in a tidy map, each node except the root has a stored key at or under it
  tidy_reason : (m : Entries T) (n : Nodes) → IsTidy m n → (s : List Bool) → has_node n s ≡ true → s ≢ [] → BeginsKey m s
  tidy_reason m n tidy s e other =
      elim (needed_for m s (subst (λ x. has_node x s ≡ true) tidy e)) [
        | inl root ↦ absurd (other root)
        | inr why ↦ (why.key, why.stored, why.begins_it)
      ]

  reason_needed : (m : Entries T) (s : List Bool) → length s % 5 ≡ 0 → (s ≢ [] → BeginsKey m s) → has_node (needed m) s ≡ true
  reason_needed m [] five why = needs_root m
  reason_needed m (b ∷ s) five why =
      let k = why (λ e. too_long b s (subst (λ x. begins x [] ≡ true) (sym e) (begins-refl []))) in
      needs m (b ∷ s) k.0 five k.1 k.2

  reason_tidy : (width : ℕ) (m : Entries T) (n : Nodes) → AreNodes width m n → ((s : List Bool) → has_node n s ≡ true → s ≢ [] → BeginsKey m s) → IsTidy m n
  reason_tidy width m n good why = same_nodes n (needed m) (λ s e. reason_needed m s (good.depths s e) (why s e)) good.hold_needed

  in_words : (m : Entries T) (s : List Bool) → (has_node (needed m) s ≡ true) ↔ ((s ≡ []) ⊎ ((length s % 5 ≡ 0) × BeginsKey m s))
  in_words m s = (
    λ e. elim (needed_for m s e) [ inl root ↦ inl root | inr why ↦ inr (why.five, (why.key, why.stored, why.begins_it)) ],
    λ h. elim h [ inl root ↦ subst (λ x. has_node (needed m) x ≡ true) (sym root) (needs_root m) | inr why ↦ needs m s why.1.0 why.0 why.1.1 why.1.2 ],
  )

pub tidy-no_entries : (T : Type 0) → IsTidy (no_entries {T = T}) root_alone
tidy-no_entries T = same_nodes root_alone (needed (no_entries {T = T}))
    (λ s e. subst (λ x. has_node (needed (no_entries {T = T})) x ≡ true) (sym (same_string-is s [] (sym (has-root_alone s) ∙ e))) (needs_root (no_entries {T = T})))
    (λ s e. elim (needed_for (no_entries {T = T}) s e) [
      | inl root ↦ subst (λ x. has_node root_alone x ≡ true) (sym root) (has-root_alone [] ∙ refl)
      | inr why ↦ absurd (true≢false (sym why.stored ∙ ap is_some (get-empty listing_cmp why.key)))
    ])

pub AreNodes-no_entries : {T : Type 0} (width : ℕ) → AreNodes width (no_entries {T = T}) root_alone
AreNodes-no_entries {T} width =
    subst (AreNodes width (no_entries {T = T})) (sym (tidy-no_entries T)) (AreNodes-needed width no_entries (λ k e. absurd (true≢false (sym e ∙ ap is_some (get-empty listing_cmp k)))))

home_is : (q : List Bool) → IsHome q (home q)
home_is q = record { begins_it = home-begins q; five = home-depth q; longest = λ t b five. begins-length t (home q) (home-longest t q b five) }

pub node_laws : (T : Type 0) → NodeLaws T
node_laws T = record {
  home_in_words = home_is;
  needed_in_words = in_words;
  tidy_in_words = λ width m n good. (tidy_reason m n, reason_tidy width m n good);
  has_with_needed = has-with_needed;
  needed_are_nodes = AreNodes-needed;
  of_no_entries = AreNodes-no_entries;
  no_entries_tidy = tidy-no_entries T;
  key_set = AreNodes-with_entry;
  key_set_again = AreNodes-stored;
  key_removed = AreNodes-without_entry;
  needed_with = needed_insert;
  needed_again = needed_stored;
}
