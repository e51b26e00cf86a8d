-- The messages for all prefixes at which two tables differ turn one into the other.
use Rattle.std.proofs.Common.{append-nil, ◌≡◌, ◌≢◌, ◌∙◌, ◌++◌, ℕ, Bool, true, false, true≢false, cond, List, [], ◌∷◌, Option, None, Some, nat_eq, eqb-true, ap, sym, refl, T}
use Rattle.std.specs.List.{Contains, cons_option, filter_map}
use Rattle.std.specs.Option.{option_map}
use Rattle.std.specs.FinMap.{entries_sorted, get, get-entries}
use Rattle.std.specs.FinMap.Entries.{below_all, find, is_sorted}
use Rattle.prefix_trie_bits.specs.Model.Order.{listing_cmp, same_string}
use Rattle.prefix_trie_bits.specs.Order.{listing-refl}
use Rattle.std.specs.Ordering.{is_eq}
use Rattle.prefix_trie.specs.Laws.Stored.{StoredLaws}
use Rattle.prefix_trie.specs.Terms.{Entries, listing, prefix_pairs, with_entry, without_entry}
use Rattle.prefix_trie_ops.specs.Merging.{sides, union_of}
use Rattle.prefix_trie_ops.specs.declared.map.sides.Side.{Side}
use Rattle.prefix_trie_ops.specs.declared.map.sides.Side.TheVariants.{Left, Right, Both}
use Rattle.prefix_trie_ops.proofs.Lists.{contains_here, contains_later}
use Rattle.prefix_trie_ops.proofs.Sorted.{find_before, same_is, t_first, t_second}
use Rattle.prefix_trie_ops_tests.specs.Updates.{change_of, with_messages}

-- the message for an item of the union, if there is one
abbrev pub message_of : {P : Type 0} → P × Side ℕ ℕ → Option (P × Option ℕ)
message_of e = option_map (λ c. (e.0, c)) (change_of e.1)

-- what a table has once the change at a key was received
abbrev changed_by : Option (Side ℕ ℕ) → Option ℕ → Option ℕ
changed_by None v = v
changed_by (Some (Left u)) v = None
changed_by (Some (Right w)) v = Some w
changed_by (Some (Both u w)) v = cond (nat_eq u w) v (Some w)

-- the same list of messages, from the listing
abbrev messages : List (List Bool × Side ℕ ℕ) → List (List Bool × Option ℕ)
messages es = filter_map message_of es

pub apart : (s t : List Bool) → same_string s t ≡ false → s ≢ t
apart s t h e = true≢false (sym (ap (λ u. same_string s u) (sym e) ∙ ap is_eq (listing-refl s)) ∙ h)

module _ (laws : StoredLaws ℕ) where
  -- what one change leaves at a key
  at_change : (e : List Bool × Side ℕ ℕ) (m : Entries ℕ) (s : List Bool) (rest : List (List Bool × Option ℕ))
      → ((n : Entries ℕ) → get (with_messages (λ t. t) rest n) s ≡ get n s) → s ≡ e.0
      → get (with_messages (λ t. t) (cons_option (message_of e) rest) m) s ≡ changed_by (Some e.1) (get m s)
  at_change (k, Left u) m s rest stays is = stays (without_entry m k) ∙ ap (get (without_entry m k)) is ∙ laws.taken m k
  at_change (k, Right w) m s rest stays is = stays (with_entry m k w) ∙ ap (get (with_entry m k w)) is ∙ laws.set m k w
  at_change (k, Both u w) m s rest stays is =
      elim (nat_eq u w) as (λ b. get (with_messages (λ t. t) (cons_option (option_map (λ c. (k, c)) (cond b None (Some (Some w)))) rest) m) s ≡ cond b (get m s) (Some w)) [
        | true ↦ stays m
        | false ↦ stays (with_entry m k w) ∙ ap (get (with_entry m k w)) is ∙ laws.set m k w
      ]

  -- one change leaves each other key as it was
  beside_change : (e : List Bool × Side ℕ ℕ) (m : Entries ℕ) (s : List Bool) (rest : List (List Bool × Option ℕ)) (after : Option ℕ → Option ℕ)
      → ((n : Entries ℕ) → get (with_messages (λ t. t) rest n) s ≡ after (get n s)) → s ≢ e.0
      → get (with_messages (λ t. t) (cons_option (message_of e) rest) m) s ≡ after (get m s)
  beside_change (k, Left u) m s rest after goes other = goes (without_entry m k) ∙ ap after (laws.beside_taken m k s other)
  beside_change (k, Right w) m s rest after goes other = goes (with_entry m k w) ∙ ap after (laws.beside_set m k w s other)
  beside_change (k, Both u w) m s rest after goes other =
      elim (nat_eq u w) as (λ b. get (with_messages (λ t. t) (cons_option (option_map (λ c. (k, c)) (cond b None (Some (Some w)))) rest) m) s ≡ after (get m s)) [
        | true ↦ goes m
        | false ↦ goes (with_entry m k w) ∙ ap after (laws.beside_set m k w s other)
      ]

  -- what all messages leave at a key
  at_all : (es : List (List Bool × Side ℕ ℕ)) → T (is_sorted listing_cmp es) → (m : Entries ℕ) (s : List Bool)
      → get (with_messages (λ t. t) (messages es) m) s ≡ changed_by (find listing_cmp s es) (get m s)
  at_all [] h m s = refl
  at_all (e ∷ es) h m s =
      let below = t_first (below_all listing_cmp e.0 es) (is_sorted listing_cmp es) h in
      let sorted = t_second (below_all listing_cmp e.0 es) (is_sorted listing_cmp es) h in
      elim (same_string s e.0) as (λ b. same_string s e.0 ≡ b → get (with_messages (λ t. t) (messages (e ∷ es)) m) s ≡ changed_by (cond b (Some e.1) (find listing_cmp s es)) (get m s)) [
        | true ↦ λ o.
            let is : s ≡ e.0 = same_is s e.0 o in
            let none : find listing_cmp s es ≡ None = ap (λ t. find listing_cmp t es) is ∙ find_before e.0 es below in
            at_change e m s (messages es) (λ n. at_all es sorted n s ∙ ap (λ f. changed_by f (get n s)) none) is
        | false ↦ λ o. beside_change e m s (messages es) (changed_by (find listing_cmp s es)) (λ n. at_all es sorted n s) (apart s e.0 o)
      ] refl

  -- so they lead from one map to the other
  reached : (m n : Entries ℕ) → ((s : List Bool) → get (union_of m n) s ≡ sides (get m s) (get n s)) → with_messages (λ t. t) (messages (listing (union_of m n))) m ≡ n
  reached m n at = laws.same (with_messages (λ t. t) (messages (listing (union_of m n))) m) n (λ s.
      at_all (listing (union_of m n)) (entries_sorted (union_of m n)) m s
      ∙ ap (λ f. changed_by f (get m s)) (sym (get-entries (union_of m n) s) ∙ at s)
      ∙ go (get m s) (get n s))
    where
      go : (v w : Option ℕ) → changed_by (sides v w) v ≡ w
      go None None = refl
      go None (Some w) = refl
      go (Some v) None = refl
      go (Some v) (Some w) = elim (nat_eq v w) as (λ b. nat_eq v w ≡ b → cond b (Some v) (Some w) ≡ Some w) [
        | true ↦ λ e. ap (λ x. Some x) (eqb-true v w e)
        | false ↦ λ _. refl
      ] refl

  module _ {P : Type 0} (path : P → List Bool) (back : List Bool → P) where
    by_prefixes : (es : List (List Bool × Side ℕ ℕ)) → ((e : List Bool × Side ℕ ℕ) → Contains es e → path (back e.0) ≡ e.0)
        → (m : Entries ℕ) → with_messages path (filter_map message_of (prefix_pairs back es)) m ≡ with_messages (λ t. t) (messages es) m
    by_prefixes [] known m = refl
    by_prefixes (e ∷ es) known m = step (λ n. by_prefixes es (λ d at. known d (contains_later e d es at)) n) (change_of e.1)
      where
        is : path (back e.0) ≡ e.0
        is = known e (contains_here e es)

        step : ((n : Entries ℕ) → with_messages path (filter_map message_of (prefix_pairs back es)) n ≡ with_messages (λ t. t) (messages es) n) → (c : Option (Option ℕ))
            → with_messages path (cons_option (option_map (λ c. (back e.0, c)) c) (filter_map message_of (prefix_pairs back es))) m ≡ with_messages (λ t. t) (cons_option (option_map (λ c. (e.0, c)) c) (messages es)) m
        step rest None = rest m
        step rest (Some None) = ap (λ s. with_messages path (filter_map message_of (prefix_pairs back es)) (without_entry m s)) is ∙ rest (without_entry m e.0)
        step rest (Some (Some v)) = ap (λ s. with_messages path (filter_map message_of (prefix_pairs back es)) (with_entry m s v)) is ∙ rest (with_entry m e.0 v)

    -- the messages for all items of the union turn one table into the other
    pub all_messages : (m n : Entries ℕ) → ((s : List Bool) → get (union_of m n) s ≡ sides (get m s) (get n s))
        → ((e : List Bool × Side ℕ ℕ) → Contains (listing (union_of m n)) e → path (back e.0) ≡ e.0)
        → with_messages path (filter_map message_of (prefix_pairs back (listing (union_of m n)))) m ≡ n
    all_messages m n at known = by_prefixes (listing (union_of m n)) known m ∙ reached m n at

-- once no item is left, the messages are all
pub finished : {M X : Type 0} (f : X → Option M) (ms : List M) (left es : List X) → left ≡ [] → ms ++ filter_map f left ≡ filter_map f es → ms ≡ filter_map f es
finished f ms left es done is = sym (append-nil ms) ∙ sym (ap (λ xs. ms ++ filter_map f xs) done) ∙ is
