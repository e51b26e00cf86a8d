-- Which keys a changed entry map or node set has, and that two of them with the same keys and values are equal.
use Rattle.prefix_trie_bits.proofs.Prelude.{◌≡◌, ◌⊎◌, ◌%◌, Bool, true, false, cond, not, ◌&&◌, ◌||◌, List, [], ◌∷◌, ◌++◌, length, map, filter, flat_map, is_some, is_eq, Option, Some, None, refl, sym, ap, ◌∙◌, subst, inl, inr, true≢false, eqb-true, eq-eqb, ℕ, nat_le, Equal-is, list_any, list_all, FinMap, empty, get, contains_key, insert, remove, retain_keys, keys, get-empty, get-insert, get-remove, get-retain_keys, contains_key-keys, same_map, begins, same_bit, listing_cmp, listing_total, listing_same, listing-refl, same_string, same_bool, Entries, with_entry, without_entry, without_below, part_below, part_at_least, Nodes, has_node, root_alone, with_nodes, beginnings, is_node_depth, nodes_above, needed, and_parts, or-false, or_assoc, and-false, and-or_distrib_left}
pub use Rattle.std.proofs.lemmas.Bool.{or_cases as or-cases, or_left as or-left, or_right as or-right, and_from as and-join, not_from_false as not-true, not-true as from-not}

pub and-first : (a b : Bool) → (a && b) ≡ true → a ≡ true
and-first a b e = (and_parts a b e).0

pub and-second : (a b : Bool) → (a && b) ≡ true → b ≡ true
and-second a b e = (and_parts a b e).1

pub same_string-is : (s t : List Bool) → same_string s t ≡ true → s ≡ t
same_string-is s t e = listing_same s t ((Equal-is (listing_cmp s t)).0 e)

pub is-same_string : (s t : List Bool) → s ≡ t → same_string s t ≡ true
is-same_string s t e = subst (λ x. same_string s x ≡ true) e (ap is_eq (listing-refl s))

-- an option that has a value is `Some` of it
pub some-value : {A : Type 0} (o : Option A) → is_some o ≡ true → (v : A) × (o ≡ Some v)
some-value None e = absurd (true≢false (sym e))
some-value (Some v) e = (v, refl)

-- two members of a node set have the same mark
marks : (o p : Option (Unit {0})) → is_some o ≡ is_some p → o ≡ p
marks None None e = refl
marks None (Some u) e = absurd (true≢false (sym e))
marks (Some u) None e = absurd (true≢false e)
marks (Some u) (Some v) e = refl

-- if some string of a list passes a test, one can be named
some-string : (p : List Bool → Bool) (ks : List (List Bool)) → list_any p ks ≡ true → (k : List Bool) × (list_any (same_string k) ks ≡ true) × (p k ≡ true)
some-string p [] e = absurd (true≢false (sym e))
some-string p (k ∷ ks) e =
    elim (or-cases (p k) (list_any p ks) e) [
      | inl here ↦ (k, or-left (same_string k k) (list_any (same_string k) ks) (is-same_string k k refl), here)
      | inr there ↦ let r = some-string p ks there in (r.0, or-right (same_string r.0 k) (list_any (same_string r.0) ks) r.1, r.2)
    ]

of-string : (p : List Bool → Bool) (ks : List (List Bool)) (k : List Bool) → list_any (same_string k) ks ≡ true → p k ≡ true → list_any p ks ≡ true
of-string p [] k e h = e
of-string p (x ∷ ks) k e h =
    elim (or-cases (same_string k x) (list_any (same_string k) ks) e) [
      | inl here ↦ or-left (p x) (list_any p ks) (subst (λ y. p y ≡ true) (same_string-is k x here) h)
      | inr there ↦ or-right (p x) (list_any p ks) (of-string p ks k there h)
    ]

each-string : (p : List Bool → Bool) (ks : List (List Bool)) (k : List Bool) → list_all p ks ≡ true → list_any (same_string k) ks ≡ true → p k ≡ true
each-string p [] k all e = absurd (true≢false (sym e))
each-string p (x ∷ ks) k all e =
    elim (or-cases (same_string k x) (list_any (same_string k) ks) e) [
      | inl here ↦ subst (λ y. p y ≡ true) (sym (same_string-is k x here)) (and-first (p x) (list_all p ks) all)
      | inr there ↦ each-string p ks k (and-second (p x) (list_all p ks) all) there
    ]

all-strings : (p : List Bool → Bool) (ks : List (List Bool)) → ((k : List Bool) → list_any (same_string k) ks ≡ true → p k ≡ true) → list_all p ks ≡ true
all-strings p [] each = refl
all-strings p (x ∷ ks) each =
    and-join (p x) (list_all p ks)
    (each x (or-left (same_string x x) (list_any (same_string x) ks) (is-same_string x x refl)))
    (all-strings p ks (λ k e. each k (or-right (same_string k x) (list_any (same_string k) ks) e)))

module _ {X : Type 0} where
  -- if some key of a map passes a test, one can be named, and the other way round
  pub some-key : (m : FinMap listing_cmp X) (p : List Bool → Bool) → list_any p (keys m) ≡ true → (k : List Bool) × (contains_key m k ≡ true) × (p k ≡ true)
  some-key m p e =
      let r = some-string p (keys m) e in
      (r.0, contains_key-keys m r.0 ∙ r.1, r.2)

  pub of-key : (m : FinMap listing_cmp X) (p : List Bool → Bool) (k : List Bool) → contains_key m k ≡ true → p k ≡ true → list_any p (keys m) ≡ true
  of-key m p k e h = of-string p (keys m) k (sym (contains_key-keys m k) ∙ e) h

  pub each-key : (m : FinMap listing_cmp X) (p : List Bool → Bool) (k : List Bool) → list_all p (keys m) ≡ true → contains_key m k ≡ true → p k ≡ true
  each-key m p k all e = each-string p (keys m) k all (sym (contains_key-keys m k) ∙ e)

  pub all-keys : (m : FinMap listing_cmp X) (p : List Bool → Bool) → ((k : List Bool) → contains_key m k ≡ true → p k ≡ true) → list_all p (keys m) ≡ true
  all-keys m p each = all-strings p (keys m) (λ k e. each k (contains_key-keys m k ∙ e))

  some-cond : (b : Bool) (o : Option X) → is_some (cond b o None) ≡ (b && is_some o)
  some-cond true o = refl
  some-cond false o = refl

  none-cond : (b : Bool) (o : Option X) → is_some (cond b None o) ≡ (not b && is_some o)
  none-cond true o = refl
  none-cond false o = refl

  value-cond : (b : Bool) (v : X) (o : Option X) → is_some (cond b (Some v) o) ≡ (b || is_some o)
  value-cond true v o = refl
  value-cond false v o = refl

  pub has-retained : (m : FinMap listing_cmp X) (p : List Bool → Bool) (q : List Bool) → contains_key (retain_keys m p) q ≡ (p q && contains_key m q)
  has-retained m p q =
      ap is_some (get-retain_keys m p q (λ x e. ap p (sym (listing_same q x e)))) ∙ some-cond (p q) (get m q)

  pub has-removed : (m : FinMap listing_cmp X) (k q : List Bool) → contains_key (remove m k) q ≡ (not (same_string q k) && contains_key m q)
  has-removed m k q = ap is_some (get-remove listing_total m k q) ∙ none-cond (same_string q k) (get m q)

  pub has-inserted : (m : FinMap listing_cmp X) (k : List Bool) (v : X) (q : List Bool) → contains_key (insert m k v) q ≡ (same_string q k || contains_key m q)
  has-inserted m k v q = ap is_some (get-insert listing_total m k v q) ∙ value-cond (same_string q k) v (get m q)

pub has-empty : (q : List Bool) → contains_key (empty {X = Unit {0}} {R = listing_cmp}) q ≡ false
has-empty q = ap is_some (get-empty listing_cmp q)

pub has-with_nodes : (n : Nodes) (ss : List (List Bool)) (q : List Bool) → has_node (with_nodes n ss) q ≡ (list_any (same_string q) ss || has_node n q)
has-with_nodes n [] q = refl
has-with_nodes n (s ∷ ss) q =
    has-inserted (with_nodes n ss) s tt q ∙ ap (λ b. same_string q s || b) (has-with_nodes n ss q) ∙ sym (or_assoc (same_string q s) _ _)

pub has-root_alone : (q : List Bool) → has_node root_alone q ≡ same_string q []
has-root_alone q = has-inserted empty [] tt q ∙ ap (λ b. same_string q [] || b) (has-empty q) ∙ or-false (same_string q [])

any-same : (q : List Bool) (a b : Bool) (ss : List (List Bool)) → list_any (same_string (a ∷ q)) (map (λ t. b ∷ t) ss) ≡ (same_bit a b && list_any (same_string q) ss)
any-same q true true (s ∷ ss) = ap (λ x. same_string q s || x) (any-same q true true ss)
any-same q false false (s ∷ ss) = ap (λ x. same_string q s || x) (any-same q false false ss)
any-same q a b [] = sym (and-false (same_bit a b))
any-same q a b (s ∷ ss) = any-same q a b ss

pub any-beginning : (q s : List Bool) → list_any (same_string q) (beginnings s) ≡ begins q s
unfolding begins
any-beginning [] [] = refl
any-beginning (a ∷ q) (b ∷ s) = any-same q a b (beginnings s) ∙ ap (λ x. same_bit a b && x) (any-beginning q s)
any-beginning q s = refl

any-filter : (p : List Bool → Bool) (q : List Bool) (ss : List (List Bool)) → list_any (same_string q) (filter p ss) ≡ (p q && list_any (same_string q) ss)
any-filter p q [] = elim (p q) as (λ b. false ≡ (b && false)) [ true ↦ refl | false ↦ refl ]
any-filter p q (s ∷ ss) =
    elim (same_string q s) as (λ b. same_string q s ≡ b → list_any (same_string q) (cond (p s) (s ∷ filter p ss) (filter p ss)) ≡ (p q && (b || list_any (same_string q) ss))) [
      | true ↦ λ e.
          let here : p s ≡ p q = ap p (sym (same_string-is q s e)) in
          elim (p q) as (λ b. p s ≡ b → list_any (same_string q) (filter p ss) ≡ (b && list_any (same_string q) ss) → list_any (same_string q) (cond (p s) (s ∷ filter p ss) (filter p ss)) ≡ (b && true)) [
            | true ↦ λ h _. ap (λ b. list_any (same_string q) (cond b (s ∷ filter p ss) (filter p ss))) h ∙ or-left (same_string q s) (list_any (same_string q) (filter p ss)) e
            | false ↦ λ h r. ap (λ b. list_any (same_string q) (cond b (s ∷ filter p ss) (filter p ss))) h ∙ r
          ] here (any-filter p q ss)
      | false ↦ λ e.
          elim (p s) as (λ b. list_any (same_string q) (cond b (s ∷ filter p ss) (filter p ss)) ≡ list_any (same_string q) (filter p ss)) [
            | true ↦ ap (λ b. b || list_any (same_string q) (filter p ss)) e
            | false ↦ refl
          ] ∙ any-filter p q ss
    ] refl

pub any-node_above : (q s : List Bool) → list_any (same_string q) (nodes_above s) ≡ (is_node_depth q && begins q s)
any-node_above q s = any-filter is_node_depth q (beginnings s) ∙ ap (λ b. is_node_depth q && b) (any-beginning q s)

any-append : (q : List Bool) (ss ts : List (List Bool)) → list_any (same_string q) (ss ++ ts) ≡ (list_any (same_string q) ss || list_any (same_string q) ts)
any-append q [] ts = refl
any-append q (s ∷ ss) ts = ap (λ b. same_string q s || b) (any-append q ss ts) ∙ sym (or_assoc (same_string q s) _ _)

any-nodes_above : (q : List Bool) (ks : List (List Bool)) → list_any (same_string q) (flat_map nodes_above ks) ≡ (is_node_depth q && list_any (λ k. begins q k) ks)
any-nodes_above q [] = elim (is_node_depth q) as (λ b. false ≡ (b && false)) [ true ↦ refl | false ↦ refl ]
any-nodes_above q (k ∷ ks) =
    any-append q (nodes_above k) (flat_map nodes_above ks)
    ∙ (λ i. any-node_above q k i || any-nodes_above q ks i)
    ∙ sym (and-or_distrib_left (is_node_depth q) (begins q k) (list_any (λ k. begins q k) ks))

module _ {T : Type 0} where
  pub has-needed : (m : Entries T) (q : List Bool) → has_node (needed m) q ≡ ((is_node_depth q && list_any (λ k. begins q k) (keys m)) || same_string q [])
  has-needed m q =
      has-with_nodes root_alone (flat_map nodes_above (keys m)) q
      ∙ (λ i. any-nodes_above q (keys m) i || has-root_alone q i)

  pub needs : (m : Entries T) (q k : List Bool) → length q % 5 ≡ 0 → contains_key m k ≡ true → begins q k ≡ true → has_node (needed m) q ≡ true
  needs m q k five stored e =
      has-needed m q
      ∙ or-left (is_node_depth q && list_any (λ s. begins q s) (keys m)) (same_string q [])
      (and-join (is_node_depth q) (list_any (λ s. begins q s) (keys m)) (eq-eqb (length q % 5) 0 five) (of-key m (λ s. begins q s) k stored e))

  pub needs_root : (m : Entries T) → has_node (needed m) [] ≡ true
  needs_root m = has-needed m [] ∙ or-right (is_node_depth [] && list_any (λ s. begins [] s) (keys m)) true refl

  pub record HasReason (m : Entries T) (q : List Bool) : Type 0 where
    pub key : List Bool
    pub stored : contains_key m key ≡ true
    pub begins_it : begins q key ≡ true
    pub five : length q % 5 ≡ 0

  pub needed_for : (m : Entries T) (q : List Bool) → has_node (needed m) q ≡ true → (q ≡ []) ⊎ HasReason m q
  needed_for m q e =
      elim (or-cases (is_node_depth q && list_any (λ k. begins q k) (keys m)) (same_string q []) (sym (has-needed m q) ∙ e)) [
        | inl h ↦
            let k = some-key m (λ k. begins q k) (and-second (is_node_depth q) (list_any (λ k. begins q k) (keys m)) h) in
            inr (record { key = k.0; stored = k.1; begins_it = k.2; five = eqb-true (length q % 5) 0 (and-first (is_node_depth q) (list_any (λ k. begins q k) (keys m)) h) })
        | inr h ↦ inl (same_string-is q [] h)
      ]

pub turned : {X : Type 0} (b : Bool) (x y : X) → cond (not b) x y ≡ cond b y x
turned true x y = refl
turned false x y = refl

module _ {T : Type 0} where
  pub get-with_entry : (m : Entries T) (s : List Bool) (v : T) (t : List Bool) → get (with_entry m s v) t ≡ cond (same_string t s) (Some v) (get m t)
  get-with_entry m s v t = get-insert listing_total m s v t

  pub get-without_entry : (m : Entries T) (s t : List Bool) → get (without_entry m s) t ≡ cond (same_string t s) None (get m t)
  get-without_entry m s t = get-remove listing_total m s t

  pub get-retained : (m : Entries T) (p : List Bool → Bool) (t : List Bool) → get (retain_keys m p) t ≡ cond (p t) (get m t) None
  get-retained m p t = get-retain_keys m p t (λ x e. ap p (sym (listing_same t x e)))

  pub get-without_below : (m : Entries T) (q t : List Bool) → get (without_below m q) t ≡ cond (begins q t) None (get m t)
  get-without_below m q t = get-retained m (λ s. not (begins q s)) t ∙ turned (begins q t) (get m t) None

  pub get-part_below : (m : Entries T) (q t : List Bool) → get (part_below m q) t ≡ cond (begins q t) (get m t) None
  get-part_below m q t = get-retained m (λ s. begins q s) t

  pub get-part_at_least : (m : Entries T) (n : ℕ) (t : List Bool) → get (part_at_least m n) t ≡ cond (nat_le n (length t)) (get m t) None
  get-part_at_least m n t = get-retained m (λ s. nat_le n (length s)) t

  -- two entry maps are equal if each lookup returns the same
  pub same_entries : (m n : Entries T) → ((s : List Bool) → get m s ≡ get n s) → m ≡ n
  same_entries m n same = same_map listing_total listing_same m n same

-- two node sets are equal if they have the same members
pub same_members : (n k : Nodes) → ((s : List Bool) → has_node n s ≡ has_node k s) → n ≡ k
same_members n k same = same_map listing_total listing_same n k (λ s. marks _ _ (same s))

pub same_nodes : (n k : Nodes) → ((s : List Bool) → has_node n s ≡ true → has_node k s ≡ true) → ((s : List Bool) → has_node k s ≡ true → has_node n s ≡ true) → n ≡ k
same_nodes n k f g = same_members n k (λ s. same_bool (has_node n s) (has_node k s) (f s) (g s))
