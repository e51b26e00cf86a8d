-- A walk over a listing that keeps the prefixes above the last entry on a stack: for `aggregate_consistent` of maps.
use Rattle.std.proofs.Common.{◌≡◌, ◌∙◌, ◌++◌, not, Bool, true, false, cond, List, [], ◌∷◌, map, filter, Option, Some, None, ap, sym, subst, refl}
use Rattle.std.proofs.lemmas.List.{append_assoc}
use Rattle.std.specs.List.{Contains}
use Rattle.std.specs.Option.{option_map}
use Rattle.std.specs.FinMap.{get}
use Rattle.prefix_trie.specs.Terms.{Entries, begins, last_item, listing, prefix_pairs}
use Rattle.prefix_trie_ops.specs.Values.{are_equal, is_redundant, stays, value_above}
use Rattle.prefix_trie_ops.proofs.Lists.{contains_here, contains_later, contains_middle, head_of, tail_of, last_pushed, map_push}
use Rattle.prefix_trie_ops.proofs.Covers.{shorter_covers, covers_push, next_covers, covers_of, above_is_last}

module _ {T' P : Type 0} (path : P → List Bool) (back : List Bool → P) where
  -- selecting by prefixes is selecting by their paths
  filter_shown : (p : List Bool × T' → Bool) (q : List Bool) (es : List (List Bool × T')) → ((e : List Bool × T') → Contains es e → path (back e.0) ≡ e.0)
      → filter (λ d. begins (path d.0) q) (prefix_pairs back (filter p es)) ≡ prefix_pairs back (filter (λ e. begins e.0 q) (filter p es))
  filter_shown p q [] h = refl
  filter_shown p q (x ∷ es) h =
      let later = filter_shown p q es (λ e at. h e (contains_later x e es at)) in
      elim (p x) as (λ b. filter (λ d. begins (path d.0) q) (prefix_pairs back (cond b (x ∷ filter p es) (filter p es))) ≡ prefix_pairs back (filter (λ e. begins e.0 q) (cond b (x ∷ filter p es) (filter p es)))) [
        | false ↦ later
        | true ↦
            ap (λ t. cond (begins t q) ((back x.0, x.1) ∷ filter (λ d. begins (path d.0) q) (prefix_pairs back (filter p es))) (filter (λ d. begins (path d.0) q) (prefix_pairs back (filter p es)))) (h x (contains_here x es))
            ∙ ap (λ ys. cond (begins x.0 q) ((back x.0, x.1) ∷ ys) ys) later ∙ pull (begins x.0 q) (filter (λ e. begins e.0 q) (filter p es))
      ]
    where
      pull : (b : Bool) (ys : List (List Bool × T')) → cond b ((back x.0, x.1) ∷ prefix_pairs back ys) (prefix_pairs back ys) ≡ prefix_pairs back (cond b (x ∷ ys) ys)
      pull true ys = refl
      pull false ys = refl

  -- the invariant: what was read is marked, and the stack has the covers of the last entry read
  pub record Walks (eq : T' → T' → Bool) (m : Entries T') (left above : List (P × T')) (marks : List Bool) : Type 0 where
    pub read : List (List Bool × T')
    pub raw : List (List Bool × T')
    pub split : listing m ≡ read ++ raw
    pub shows : left ≡ prefix_pairs back raw
    pub marked : marks ≡ map (stays eq m) read
    pub stack : above ≡ prefix_pairs back (covers_of m (last_item read))

  pub walks_start : (eq : T' → T' → Bool) (m : Entries T') (left above : List (P × T')) (marks : List Bool) → left ≡ prefix_pairs back (listing m) → above ≡ [] → marks ≡ [] → Walks eq m left above marks
  walks_start eq m left above marks l a k = record { read = []; raw = listing m; split = refl; shows = l; marked = k; stack = a }

  last_shown : (es : List (List Bool × T')) → option_map (λ e. e.1) (last_item (prefix_pairs back es)) ≡ option_map (λ e. e.1) (last_item es)
  last_shown [] = refl
  last_shown (x ∷ []) = refl
  last_shown (x ∷ y ∷ es) = last_shown (y ∷ es)

  -- the invariant holds after one more entry
  walks_next : (eq : T' → T' → Bool) (m : Entries T') (read raw : List (List Bool × T')) (y : List Bool × T') (above above1 above2 : List (P × T')) (marks marks2 : List Bool) (r : Bool)
      → ((e : List Bool × T') → Contains (listing m) e → (path (back e.0) ≡ e.0) × (get m e.0 ≡ Some e.1))
      → listing m ≡ read ++ y ∷ raw → marks ≡ map (stays eq m) read → above ≡ prefix_pairs back (covers_of m (last_item read))
      → above1 ≡ filter (λ d. begins (path d.0) (path (back y.0))) above → r ≡ are_equal eq (option_map (λ e. e.1) (last_item above1)) (Some y.1)
      → above2 ≡ above1 ++ (back y.0, y.1) ∷ [] → marks2 ≡ marks ++ not r ∷ []
      → Walks eq m (prefix_pairs back raw) above2 marks2
  walks_next eq m read raw y above above1 above2 marks marks2 r known split marked stack pops tops pushes adds =
      let here = known y (subst (λ es. Contains es y) (sym split) (contains_middle read raw y)) in
      let selected : filter (λ d. begins (path d.0) y.0) (prefix_pairs back (covers_of m (last_item read))) ≡ prefix_pairs back (filter (λ e. begins e.0 y.0) (covers_of m (last_item read))) =
      selects (last_item read) in
      let rest : above1 ≡ prefix_pairs back (shorter_covers m y.0) =
      pops ∙ ap (λ q. filter (λ d. begins (path d.0) q) above) here.0 ∙ ap (filter (λ d. begins (path d.0) y.0)) stack ∙ selected ∙ ap (prefix_pairs back) (next_covers m read raw y split) in
      let redundant : r ≡ is_redundant eq m y.0 =
      tops ∙ ap (λ es. are_equal eq (option_map (λ e. e.1) (last_item es)) (Some y.1)) rest ∙ ap (λ o. are_equal eq o (Some y.1)) (last_shown (shorter_covers m y.0) ∙ sym (above_is_last m y.0))
      ∙ ap (are_equal eq (value_above m y.0)) (sym here.1) in
      record {
        read = read ++ y ∷ [];
        raw = raw;
        split = split ∙ sym (append_assoc read (y ∷ []) raw);
        shows = refl;
        marked = adds ∙ ap (λ b. marks ++ not b ∷ []) redundant ∙ ap (λ bs. bs ++ stays eq m y ∷ []) marked ∙ map_push (stays eq m) read y;
        stack = pushes ∙ ap (λ es. es ++ (back y.0, y.1) ∷ []) rest ∙ map_push (λ e. (back e.0, e.1)) (shorter_covers m y.0) y ∙ ap (prefix_pairs back) (sym (covers_push m read raw y split).0)
            ∙ ap (λ o. prefix_pairs back (covers_of m o)) (sym (last_pushed read y));
      }
    where
      selects : (o : Option (List Bool × T')) → filter (λ d. begins (path d.0) y.0) (prefix_pairs back (covers_of m o)) ≡ prefix_pairs back (filter (λ e. begins e.0 y.0) (covers_of m o))
      selects None = refl
      selects (Some x) = filter_shown (λ e. begins e.0 x.0) y.0 (listing m) (λ e at. (known e at).0)

  pub walks_on : (eq : T' → T' → Bool) (m : Entries T') (left rest : List (P × T')) (x : P × T') (above above1 above2 : List (P × T')) (marks marks2 : List Bool) (r : Bool)
      → ((e : List Bool × T') → Contains (listing m) e → (path (back e.0) ≡ e.0) × (get m e.0 ≡ Some e.1))
      → left ≡ x ∷ rest
      → above1 ≡ filter (λ d. begins (path d.0) (path x.0)) above → r ≡ are_equal eq (option_map (λ e. e.1) (last_item above1)) (Some x.1)
      → above2 ≡ above1 ++ x ∷ [] → marks2 ≡ marks ++ not r ∷ []
      → Walks eq m left above marks → Walks eq m rest above2 marks2
  walks_on eq m left rest x above above1 above2 marks marks2 r known split pops tops pushes adds is = go is.raw is.split (sym split ∙ is.shows)
    where
      go : (raw : List (List Bool × T')) → listing m ≡ is.read ++ raw → x ∷ rest ≡ prefix_pairs back raw → Walks eq m rest above2 marks2
      go [] s h = cc
      go (y ∷ raw) s h =
          let first : x ≡ (back y.0, y.1) = ap (head_of x) h in
          let others : rest ≡ prefix_pairs back raw = ap tail_of h in
          subst (λ es. Walks eq m es above2 marks2) (sym others)
          (walks_next eq m is.read raw y above above1 above2 marks marks2 r known s is.marked is.stack
          (pops ∙ ap (λ z. filter (λ d. begins (path d.0) (path z.0)) above) first) (tops ∙ ap (λ z. are_equal eq (option_map (λ e. e.1) (last_item above1)) (Some z.1)) first)
          (pushes ∙ ap (λ z. above1 ++ z ∷ []) first) adds)
