-- Which nodes removals leave: for `pruning_laws`.
use Rattle.prefix_trie_bits.proofs.Prelude.{◌≡◌, ◌≢◌, ℕ, ◌%◌, ◌≤◌, Bool, true, false, cond, not, ◌&&◌, ◌||◌, nat_lt, List, [], ◌∷◌, length, refl, sym, ◌∙◌, subst, arith, inl, inr, true≢false, list_any, list_all, contains_key, keys, retain_keys, nat_tests, begins, begins-trans, begins-refl, begins-linear, begins-antisymm, begins-length, same_string, Entries, without_entry, without_below, Nodes, has_node, home, needed, AreNodes, IsTidy, is_root, is_pruned, pruned, nodes_not_below, nodes_without, nodes_without_below, IsPrunedNode, IsPruning, PruningLaws}
use Rattle.prefix_trie_bits.proofs.Model.Members.{or-right, and-first, and-second, and-join, not-true, from-not, same_string-is, is-same_string, some-key, of-key, each-key, all-keys, has-retained, has-removed, needs, needs_root, needed_for, same_nodes}
use Rattle.prefix_trie_bits.proofs.Model.Homes.{home-begins, home-depth, home-longest}
pub use Rattle.std.proofs.lemmas.Bool.{false_from_ne_true as not-so}

pub clash : (b : Bool) → b ≡ true → b ≡ false → ⊥
clash b e f = true≢false (sym e ∙ f)

pub too_long : (x : Bool) (xs : List Bool) → begins (x ∷ xs) [] ≡ true → ⊥
unfolding begins
too_long x xs h = true≢false (sym h)

pub begins-nil : (s : List Bool) → begins [] s ≡ true
unfolding begins
begins-nil s = refl

-- an implication between two tests, as one test and as a function
follows : (a b : Bool) → (not a || b) ≡ true → a ≡ true → b ≡ true
follows true b h e = h
follows false b h e = absurd (true≢false (sym e))

implied : (a b : Bool) → (a ≡ true → b ≡ true) → (not a || b) ≡ true
implied true b f = f refl
implied false b f = refl

has-cond : (b : Bool) (n k : Nodes) (s : List Bool) → has_node (cond b n k) s ≡ cond b (has_node n s) (has_node k s)
has-cond true n k s = refl
has-cond false n k s = refl

module _ {T : Type 0} where
  -- the conditions under which a node is pruned
  record Goes (n : Nodes) (m : Entries T) (h t : List Bool) : Type 0 where
    no_key : list_any (λ s. begins t s) (keys m) ≡ false
    on_path : begins t h ≡ true
    not_root : not (is_root t) ≡ true
    alone : list_all (λ u. not (begins t u) || begins u h) (keys n) ≡ true

  goes : (n : Nodes) (m : Entries T) (h t : List Bool) → is_pruned n m h t ≡ true → Goes n m h t
  goes n m h t e =
      let a = not (list_any (λ s. begins t s) (keys m)) in
      let b = begins t h in
      let c = not (is_root t) in
      let d = list_all (λ u. not (begins t u) || begins u h) (keys n) in
      let r = and-second a (b && (c && d)) e in
      let q = and-second b (c && d) r in
      record { no_key = from-not (list_any (λ s. begins t s) (keys m)) (and-first a (b && (c && d)) e); on_path = and-first b (c && d) r; not_root = and-first c d q; alone = and-second c d q }

  goes_from : (n : Nodes) (m : Entries T) (h t : List Bool) → Goes n m h t → is_pruned n m h t ≡ true
  goes_from n m h t g =
      let a = not (list_any (λ s. begins t s) (keys m)) in
      let b = begins t h in
      let c = not (is_root t) in
      let d = list_all (λ u. not (begins t u) || begins u h) (keys n) in
      and-join a (b && (c && d)) (not-true (list_any (λ s. begins t s) (keys m)) g.no_key) (and-join b (c && d) g.on_path (and-join c d g.not_root g.alone))

  -- a node stays exactly if it was there and is not pruned
  stays : (n : Nodes) (m : Entries T) (q s : List Bool) → has_node n s ≡ true → (has_node n (home q) ≡ true → is_pruned n m (home q) s ≡ true → ⊥) → has_node (pruned n m q) s ≡ true
  stays n m q s e not_pruned =
      has-cond (has_node n (home q)) (retain_keys n (λ t. not (is_pruned n m (home q) t))) n s
      ∙ elim (has_node n (home q)) as (λ b. has_node n (home q) ≡ b → cond b (has_node (retain_keys n (λ t. not (is_pruned n m (home q) t))) s) (has_node n s) ≡ true) [
        | true ↦ λ h. has-retained n (λ t. not (is_pruned n m (home q) t)) s
            ∙ and-join (not (is_pruned n m (home q) s)) (has_node n s) (not-true (is_pruned n m (home q) s) (not-so (is_pruned n m (home q) s) (not_pruned h))) e
        | false ↦ λ h. e
      ] refl

  stood : (n : Nodes) (m : Entries T) (q s : List Bool) → has_node (pruned n m q) s ≡ true → has_node n s ≡ true
  stood n m q s e =
      elim (has_node n (home q)) as (λ b. cond b (has_node (retain_keys n (λ t. not (is_pruned n m (home q) t))) s) (has_node n s) ≡ true → has_node n s ≡ true) [
        | true ↦ λ h. and-second (not (is_pruned n m (home q) s)) (has_node n s) (sym (has-retained n (λ t. not (is_pruned n m (home q) t)) s) ∙ h)
        | false ↦ λ h. h
      ] (sym (has-cond (has_node n (home q)) (retain_keys n (λ t. not (is_pruned n m (home q) t))) n s) ∙ e)

  spared : (n : Nodes) (m : Entries T) (q s : List Bool) → has_node (pruned n m q) s ≡ true → has_node n (home q) ≡ true → is_pruned n m (home q) s ≡ true → ⊥
  spared n m q s e h gone =
      let left : cond true (has_node (retain_keys n (λ t. not (is_pruned n m (home q) t))) s) (has_node n s) ≡ true =
      subst (λ b. cond b (has_node (retain_keys n (λ t. not (is_pruned n m (home q) t))) s) (has_node n s) ≡ true) h
      (sym (has-cond (has_node n (home q)) (retain_keys n (λ t. not (is_pruned n m (home q) t))) n s) ∙ e) in
      clash (is_pruned n m (home q) s) gone
      (from-not (is_pruned n m (home q) s) (and-first (not (is_pruned n m (home q) s)) (has_node n s) (sym (has-retained n (λ t. not (is_pruned n m (home q) t)) s) ∙ left)))

  no_root : (n : Nodes) (m : Entries T) (h : List Bool) → is_pruned n m h [] ≡ true → ⊥
  no_root n m h e = true≢false (sym (goes n m h [] e).not_root)

  -- a needed node is not pruned
  needed_stays : (n : Nodes) (m : Entries T) (q s : List Bool) → has_node n s ≡ true → has_node (needed m) s ≡ true → has_node (pruned n m q) s ≡ true
  needed_stays n m q s e needs_it =
      stays n m q s e (λ _ gone. elim (needed_for m s needs_it) [
        | inl root ↦ no_root n m (home q) (subst (λ x. is_pruned n m (home q) x ≡ true) root gone)
        | inr why ↦ clash (list_any (λ k. begins s k) (keys m)) (of-key m (λ k. begins s k) why.key why.stored why.begins_it) (goes n m (home q) s gone).no_key
      ])

  -- the node set is still correct after pruning
  are_nodes_pruned : (width : ℕ) (m : Entries T) (n : Nodes) (q : List Bool) → AreNodes width m n → AreNodes width m (pruned n m q)
  are_nodes_pruned width m n q good = record {
    within = λ s e. good.within s (stood n m q s e);
    depths = λ s e. good.depths s (stood n m q s e);
    rooted = stays n m q [] good.rooted (λ _. no_root n m (home q));
    closed = λ s t e b five.
        stays n m q s (good.closed s t (stood n m q t e) b five) (λ h gone.
        let g = goes n m (home q) s gone in
        let at_home : (u : List Bool) → has_node n u ≡ true → begins s u ≡ true → begins u (home q) ≡ true = λ u at. follows (begins s u) (begins u (home q)) (each-key n (λ v. not (begins s v) || begins v (home q)) u g.alone at) in
        spared n m q t e h (goes_from n m (home q) t (record {
          no_key = not-so (list_any (λ k. begins t k) (keys m)) (λ some.
              let k = some-key m (λ k. begins t k) some in
              clash (list_any (λ k. begins s k) (keys m)) (of-key m (λ k. begins s k) k.0 k.1 (begins-trans s t k.0 b k.2)) g.no_key);
          on_path = at_home t (stood n m q t e) b;
          not_root = longer s t (begins-length s t b) g.not_root;
          alone = all-keys n (λ u. not (begins t u) || begins u (home q)) (λ u at. implied (begins t u) (begins u (home q)) (λ tu. at_home u at (begins-trans s t u b tu)));
        })));
    hold_needed = λ s e. needed_stays n m q s (good.hold_needed s e) e;
  }
    where
      longer : (s t : List Bool) → length s ≤ length t → not (is_root s) ≡ true → not (is_root t) ≡ true
      longer [] t l e = absurd (true≢false (sym e))
      longer (a ∷ s) [] l e = absurd (omega (arith, l))
      longer (a ∷ s) (b ∷ t) l e = refl

  -- a map with fewer keys needs no more nodes
  pub needed_fewer : (m left : Entries T) → ((k : List Bool) → contains_key left k ≡ true → contains_key m k ≡ true) → (s : List Bool) → has_node (needed left) s ≡ true → has_node (needed m) s ≡ true
  needed_fewer m left fewer s e =
      elim (needed_for left s e) [
        | inl root ↦ subst (λ x. has_node (needed m) x ≡ true) (sym root) (needs_root m)
        | inr why ↦ needs m s why.key why.five (fewer why.key why.stored) why.begins_it
      ]

  -- what pruning requires of the entries and nodes that a removal left
  record Removes (width : ℕ) (m left : Entries T) (n near_nodes : Nodes) (q : List Bool) : Type 0 where
    kept : (k : List Bool) → contains_key m k ≡ true → begins q k ≡ false → contains_key left k ≡ true
    sub : (s : List Bool) → has_node near_nodes s ≡ true → has_node n s ≡ true
    home_stays : has_node n (home q) ≡ true → has_node near_nodes (home q) ≡ true
    near : has_node near_nodes (home q) ≡ true → (t k : List Bool) → has_node near_nodes t ≡ true → length t % 5 ≡ 0 → contains_key m k ≡ true → contains_key left k ≡ false → begins t k ≡ true → begins t (home q) ≡ true
    good : AreNodes width left near_nodes

  tidy_after : (width : ℕ) (m left : Entries T) (n near_nodes : Nodes) (q : List Bool) → Removes width m left n near_nodes q → IsTidy m n → (s : List Bool) → has_node (pruned near_nodes left q) s ≡ true → has_node (needed left) s ≡ true
  tidy_after width m left n near_nodes q r tidy [] e = needs_root left
  tidy_after width m left n near_nodes q r tidy (b ∷ s) e =
      elim (needed_for m (b ∷ s) (subst (λ x. has_node x (b ∷ s) ≡ true) tidy (r.sub (b ∷ s) here))) [
        | inl root ↦ subst (λ x. has_node (needed left) x ≡ true) (sym root) (needs_root left)
        | inr why ↦ elim (list_any (λ k. begins (b ∷ s) k) (keys left)) as (λ x. list_any (λ k. begins (b ∷ s) k) (keys left) ≡ x → has_node (needed left) (b ∷ s) ≡ true) [
          | true ↦ λ some. let k = some-key left (λ k. begins (b ∷ s) k) some in needs left (b ∷ s) k.0 why.five k.1 k.2
          | false ↦ λ none.
              let gone : contains_key left why.key ≡ false = no_longer (b ∷ s) why.key none why.begins_it in
              let above : begins q why.key ≡ true = begun why.key why.stored gone in
              let at_home : has_node near_nodes (home q) ≡ true =
              r.home_stays (subst (λ x. has_node x (home q) ≡ true) (sym tidy) (needs m (home q) why.key (home-depth q) why.stored (begins-trans (home q) q why.key (home-begins q) above))) in
              absurd (spared near_nodes left q (b ∷ s) e at_home (goes_from near_nodes left (home q) (b ∷ s) (record {
                no_key = none;
                on_path = r.near at_home (b ∷ s) why.key here why.five why.stored gone why.begins_it;
                not_root = refl;
                alone = all-keys near_nodes (λ u. not (begins (b ∷ s) u) || begins u (home q)) (λ u at. implied (begins (b ∷ s) u) (begins u (home q)) (λ below.
                    elim (needed_for m u (subst (λ x. has_node x u ≡ true) tidy (r.sub u at))) [
                      | inl root ↦ absurd (too_long b s (subst (λ x. begins (b ∷ s) x ≡ true) root below))
                      | inr other ↦ r.near at_home u other.key at other.five other.stored (no_longer (b ∷ s) other.key none (begins-trans (b ∷ s) u other.key below other.begins_it)) other.begins_it
                    ]));
              })))
        ] refl
      ]
    where
      here : has_node near_nodes (b ∷ s) ≡ true
      here = stood near_nodes left q (b ∷ s) e

      no_longer : (t k : List Bool) → list_any (λ x. begins t x) (keys left) ≡ false → begins t k ≡ true → contains_key left k ≡ false
      no_longer t k none h = not-so (contains_key left k) (λ has. clash (list_any (λ x. begins t x) (keys left)) (of-key left (λ x. begins t x) k has h) none)

      begun : (k : List Bool) → contains_key m k ≡ true → contains_key left k ≡ false → begins q k ≡ true
      begun k has gone = elim (begins q k) as (λ x. begins q k ≡ x → x ≡ true) [ true ↦ λ _. refl | false ↦ λ nay. absurd (clash (contains_key left k) (r.kept k has nay) gone) ] refl

  is_pruning : (width : ℕ) (m left : Entries T) (n near_nodes : Nodes) (q : List Bool) → Removes width m left n near_nodes q → IsPruning width m left n (pruned near_nodes left q)
  is_pruning width m left n near_nodes q r = record {
    none_new = λ s e. r.sub s (stood near_nodes left q s e);
    needed_stay = λ s e. needed_stays near_nodes left q s (r.good.hold_needed s e) e;
    stays_tidy = λ tidy. same_nodes (pruned near_nodes left q) (needed left) (tidy_after width m left n near_nodes q r tidy) (λ s e. needed_stays near_nodes left q s (r.good.hold_needed s e) e);
    are_nodes = are_nodes_pruned width left near_nodes q r.good;
  }

  -- the same nodes are a correct node set for fewer keys
  pub for_fewer : (width : ℕ) (m left : Entries T) (n : Nodes) → ((k : List Bool) → contains_key left k ≡ true → contains_key m k ≡ true) → AreNodes width m n → AreNodes width left n
  for_fewer width m left n fewer good = record { within = good.within; depths = good.depths; rooted = good.rooted; closed = good.closed; hold_needed = λ s e. good.hold_needed s (needed_fewer m left fewer s e) }

  pub removed_fewer : (m : Entries T) (q k : List Bool) → contains_key (without_entry m q) k ≡ true → contains_key m k ≡ true
  removed_fewer m q k e = and-second (not (same_string k q)) (contains_key m k) (sym (has-removed m q k) ∙ e)

  pub remove_law : (width : ℕ) (m : Entries T) (n : Nodes) (q : List Bool) → AreNodes width m n → IsPruning width m (without_entry m q) n (nodes_without n m q)
  remove_law width m n q good = is_pruning width m (without_entry m q) n n q (record {
    kept = λ k has nay. has-removed m q k ∙ and-join (not (same_string k q)) (contains_key m k) (not-true (same_string k q) (not-so (same_string k q) (λ same. clash (begins q k) (subst (λ x. begins q x ≡ true) (sym (same_string-is k q same)) (begins-refl q)) nay))) has;
    sub = λ s e. e;
    home_stays = λ e. e;
    near = λ _ t k at five has gone h.
        let is : k ≡ q = elim (same_string k q) as (λ x. same_string k q ≡ x → k ≡ q) [
          | true ↦ λ same. same_string-is k q same
          | false ↦ λ other. absurd (clash (contains_key (without_entry m q) k) (has-removed m q k ∙ and-join (not (same_string k q)) (contains_key m k) (not-true (same_string k q) other) has) gone)
        ] refl in
        home-longest t q (subst (λ x. begins t x ≡ true) is h) five;
    good = for_fewer width m (without_entry m q) n (removed_fewer m q) good;
  })

  pub below_fewer : (m : Entries T) (q k : List Bool) → contains_key (without_below m q) k ≡ true → contains_key m k ≡ true
  below_fewer m q k e = and-second (not (begins q k)) (contains_key m k) (sym (has-retained m (λ s. not (begins q s)) k) ∙ e)

  below_kept : (m : Entries T) (q k : List Bool) → contains_key m k ≡ true → begins q k ≡ false → contains_key (without_below m q) k ≡ true
  below_kept m q k has nay = has-retained m (λ s. not (begins q s)) k ∙ and-join (not (begins q k)) (contains_key m k) (not-true (begins q k) nay) has

  below_gone : (m : Entries T) (q k : List Bool) → contains_key m k ≡ true → contains_key (without_below m q) k ≡ false → begins q k ≡ true
  below_gone m q k has gone = elim (begins q k) as (λ x. begins q k ≡ x → x ≡ true) [ true ↦ λ _. refl | false ↦ λ nay. absurd (clash (contains_key (without_below m q) k) (below_kept m q k has nay) gone) ] refl

-- `nodes_not_below` keeps exactly the nodes that q does not begin, and q's own node
near_stays : (n : Nodes) (q s : List Bool) → has_node n s ≡ true → (not (begins q s) || same_string s (home q)) ≡ true → has_node (nodes_not_below n q) s ≡ true
near_stays n q s e h = has-retained n (λ t. not (begins q t) || same_string t (home q)) s ∙ and-join (not (begins q s) || same_string s (home q)) (has_node n s) h e

near_stood : (n : Nodes) (q s : List Bool) → has_node (nodes_not_below n q) s ≡ true → has_node n s ≡ true
near_stood n q s e = and-second (not (begins q s) || same_string s (home q)) (has_node n s) (sym (has-retained n (λ t. not (begins q t) || same_string t (home q)) s) ∙ e)

pub near_is : (n : Nodes) (q s : List Bool) → has_node (nodes_not_below n q) s ≡ true → begins q s ≡ true → s ≡ home q
near_is n q s e b = same_string-is s (home q) (follows (begins q s) (same_string s (home q))
    (and-first (not (begins q s) || same_string s (home q)) (has_node n s) (sym (has-retained n (λ t. not (begins q t) || same_string t (home q)) s) ∙ e)) b)

-- a beginning of q's own node that begins with q is that node
home_only : (q s : List Bool) → begins q s ≡ true → begins s (home q) ≡ true → s ≡ home q
home_only q s b e = begins-antisymm s (home q) e (begins-trans (home q) q s (home-begins q) b)

module _ {T : Type 0} where
  near_nodes_good : (width : ℕ) (m : Entries T) (n : Nodes) (q : List Bool) → AreNodes width m n → AreNodes width (without_below m q) (nodes_not_below n q)
  near_nodes_good width m n q good = record {
    within = λ s e. good.within s (near_stood n q s e);
    depths = λ s e. good.depths s (near_stood n q s e);
    rooted = stays_near [] good.rooted (λ b. home_only q [] b (begins-nil (home q)));
    closed = λ s t e b five. stays_near s (good.closed s t (near_stood n q t e) b five) (λ above. home_only q s above (subst (λ x. begins s x ≡ true) (near_is n q t e (begins-trans q s t above b)) b));
    hold_needed = λ s e. elim (needed_for (without_below m q) s e) [
      | inl root ↦ subst (λ x. has_node (nodes_not_below n q) x ≡ true) (sym root) (stays_near [] good.rooted (λ b. home_only q [] b (begins-nil (home q))))
      | inr why ↦ stays_near s (good.hold_needed s (needed_fewer m (without_below m q) (below_fewer m q) s e)) (λ above. absurd (clash (begins q why.key) (begins-trans q s why.key above why.begins_it) (still why.key why.stored)))
    ];
  }
    where
      stays_near : (s : List Bool) → has_node n s ≡ true → (begins q s ≡ true → s ≡ home q) → has_node (nodes_not_below n q) s ≡ true
      stays_near s e only =
          near_stays n q s e (implied (begins q s) (same_string s (home q)) (λ b. is-same_string s (home q) (only b)))

      still : (k : List Bool) → contains_key (without_below m q) k ≡ true → begins q k ≡ false
      still k e = from-not (begins q k) (and-first (not (begins q k)) (contains_key m k) (sym (has-retained m (λ s. not (begins q s)) k) ∙ e))

  below_by : (width : ℕ) (m : Entries T) (n : Nodes) (q : List Bool) → AreNodes width m n → (b : Bool) → has_node n (home q) ≡ b → IsPruning width m (without_below m q) n (cond b (pruned (nodes_not_below n q) (without_below m q) q) n)
  below_by width m n q good true at = is_pruning width m (without_below m q) n (nodes_not_below n q) q (record {
    kept = below_kept m q;
    sub = near_stood n q;
    home_stays = λ e. near_stays n q (home q) e (or-right (not (begins q (home q))) (same_string (home q) (home q)) (is-same_string (home q) (home q) refl));
    near = λ _ t k here five has gone h. by_length t k here five (below_gone m q k has gone) h;
    good = near_nodes_good width m n q good;
  })
    where
      by_length : (t k : List Bool) → has_node (nodes_not_below n q) t ≡ true → length t % 5 ≡ 0 → begins q k ≡ true → begins t k ≡ true → begins t (home q) ≡ true
      by_length t k here five above h =
          elim (begins q t) as (λ x. begins q t ≡ x → begins t (home q) ≡ true) [
            | true ↦ λ b. subst (λ x. begins t x ≡ true) (near_is n q t here b) (begins-refl t)
            | false ↦ λ nay. home-longest t q (begins-linear t q k h above (shorter t k nay above h)) five
          ] refl
        where
          shorter : (t k : List Bool) → begins q t ≡ false → begins q k ≡ true → begins t k ≡ true → length t ≤ length q
          shorter t k nay above h = elim (nat_lt (length q) (length t)) as (λ x. nat_lt (length q) (length t) ≡ x → length t ≤ length q) [
            | true ↦ λ lt. absurd (clash (begins q t) (begins-linear q t k above h (grind (arith, nat_tests))) nay)
            | false ↦ λ ge. grind (arith, nat_tests)
          ] refl
  below_by width m n q good false away =
      let found = is_pruning width m (without_below m q) n n q (record {
        kept = below_kept m q;
        sub = λ s e. e;
        home_stays = λ e. e;
        near = λ at. absurd (clash (has_node n (home q)) at away);
        good = for_fewer width m (without_below m q) n (below_fewer m q) good;
      }) in
      subst (λ b. IsPruning width m (without_below m q) n (cond b (retain_keys n (λ t. not (is_pruned n (without_below m q) (home q) t))) n)) away found

  pub remove_children_law : (width : ℕ) (m : Entries T) (n : Nodes) (q : List Bool) → AreNodes width m n → IsPruning width m (without_below m q) n (nodes_without_below n m q)
  remove_children_law width m n q good = below_by width m n q good (has_node n (home q)) refl

not_empty : (t : List Bool) → t ≢ [] → not (is_root t) ≡ true
not_empty [] other = absurd (other refl)
not_empty (b ∷ t) other = refl

is_empty : (t : List Bool) → t ≡ [] → not (is_root t) ≡ true → ⊥
is_empty t root e = clash (is_root t) (subst (λ x. is_root x ≡ true) (sym root) refl) (from-not (is_root t) e)

module _ {T : Type 0} where
  -- a node is pruned by its conditions, as the contract states them
  taken-out : (n : Nodes) (m : Entries T) (q t : List Bool) → has_node n (home q) ≡ true → Goes n m (home q) t → IsPrunedNode n m q t
  taken-out n m q t at g = record {
    home_there = at;
    on_path = g.on_path;
    not_root = λ root. is_empty t root g.not_root;
    no_key = λ k has. not-so (begins t k) (λ e. clash (list_any (λ s. begins t s) (keys m)) (of-key m (λ s. begins t s) k has e) g.no_key);
    alone = λ u has. follows (begins t u) (begins u (home q)) (each-key n (λ x. not (begins t x) || begins x (home q)) u g.alone has);
  }

  goes-out : (n : Nodes) (m : Entries T) (q t : List Bool) → IsPrunedNode n m q t → Goes n m (home q) t
  goes-out n m q t out = record {
    no_key = not-so (list_any (λ s. begins t s) (keys m)) (λ some.
        let k = some-key m (λ s. begins t s) some in
        clash (begins t k.0) k.2 (out.no_key k.0 k.1));
    on_path = out.on_path;
    not_root = not_empty t out.not_root;
    alone = all-keys n (λ u. not (begins t u) || begins u (home q)) (λ u at. implied (begins t u) (begins u (home q)) (out.alone u at));
  }

  gone-taken : (n : Nodes) (m : Entries T) (q t : List Bool) → has_node n t ≡ true → has_node (pruned n m q) t ≡ false → IsPrunedNode n m q t
  gone-taken n m q t at gone =
      elim (has_node n (home q)) as (λ a. has_node n (home q) ≡ a → IsPrunedNode n m q t) [
        | true ↦ λ there. elim (is_pruned n m (home q) t) as (λ b. is_pruned n m (home q) t ≡ b → IsPrunedNode n m q t) [
          | true ↦ λ out. taken-out n m q t there (goes n m (home q) t out)
          | false ↦ λ left. absurd (clash (has_node (pruned n m q) t) (stays n m q t at (λ _ out. clash (is_pruned n m (home q) t) out left)) gone)
        ] refl
        | false ↦ λ away. absurd (clash (has_node (pruned n m q) t) (stays n m q t at (λ there _. clash (has_node n (home q)) there away)) gone)
      ] refl

  taken-gone : (n : Nodes) (m : Entries T) (q t : List Bool) → IsPrunedNode n m q t → has_node (pruned n m q) t ≡ false
  taken-gone n m q t out = not-so (has_node (pruned n m q) t) (λ left. spared n m q t left out.home_there (goes_from n m (home q) t (goes-out n m q t out)))

pub pruning_laws : (T : Type 0) → PruningLaws T
pruning_laws T = record {
  in_words = λ n m q t at. (gone-taken n m q t at, taken-gone n m q t);
  none_added = stood;
  of_remove = remove_law;
  of_remove_children = remove_children_law;
}
