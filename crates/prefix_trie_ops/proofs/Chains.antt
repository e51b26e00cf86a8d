-- Chains of prefixes, each of which contains the next ones, and the last item of a list: for the stack of
-- `aggregate_consistent` of maps.
use Rattle.std.proofs.Common.{◌≡◌, ◌∙◌, ◌-◌, ◌++◌, suc, Bool, true, false, cond, List, [], ◌∷◌, length, map, filter, Option, Some, None, All, Bor, ap, sym, subst, refl, arith, append-nil}
use Rattle.std.proofs.lemmas.List.Elements.{filter-append, All-head, All-tail, All-cons, All-nil, All-filter, All-push}
use Rattle.std.specs.List.{slice_get}
use Rattle.std.specs.Option.{option_map, option_to_list}
use Rattle.prefix_trie_bits.specs.Begins.{begins-trans}
use Rattle.prefix_trie.specs.Terms.{begins, last_item, lent_item}
use Rattle.prefix_trie_ops.specs.Values.{are_equal, IsChain}
use Rattle.prefix_trie_ops.proofs.Lists.{last_pushed}

module _ {X : Type 0} where
  pub last-get : (xs : List X) → slice_get xs (length xs - 1) ≡ last_item xs
  last-get [] = refl
  last-get (x ∷ []) = refl
  last-get (x ∷ y ∷ xs) = let e : length (x ∷ y ∷ xs) - 1 ≡ suc (length (y ∷ xs) - 1) = omega arith in ap (slice_get (x ∷ y ∷ xs)) e ∙ last-get (y ∷ xs)

  pub last-map : {Y : Type 0} (f : X → Y) (xs : List X) → last_item (map f xs) ≡ option_map f (last_item xs)
  last-map f [] = refl
  last-map f (x ∷ []) = refl
  last-map f (x ∷ y ∷ xs) = last-map f (y ∷ xs)

  pub All-first : (P : X → Type 0) (xs ys : List X) → All P (xs ++ ys) → All P xs
  All-first P [] ys h = All-nil P
  All-first P (x ∷ xs) ys h = All-cons P x xs (All-head P x (xs ++ ys) h) (All-first P xs ys (All-tail P x (xs ++ ys) h))

  pub All-last : (P : X → Type 0) (xs : List X) (e : X) → last_item xs ≡ Some e → All P xs → P e
  All-last P [] e is h = cc
  All-last P (x ∷ []) e is h = subst (λ o. OfSome P o) is (All-head P x [] h)
    where
      OfSome : (X → Type 0) → Option X → Type 0
      OfSome P None = Unit {0}
      OfSome P (Some x) = P x
  All-last P (x ∷ y ∷ xs) e is h = All-last P (y ∷ xs) e is (All-tail P x (y ∷ xs) h)

-- comparing the last of the lent values with another value
pub top : {P T : Type 0} (eq : T → T → Bool) (xs : List (P × Bor T)) (x : P × Bor T) (v : T) → slice_get xs (length xs - 1) ≡ Some x
    → are_equal eq (option_map (λ e. e.1) (last_item (map lent_item xs))) (Some v) ≡ eq x.1.now v
top eq xs x v h = ap (λ o. are_equal eq (option_map (λ e. e.1) o) (Some v)) (last-map lent_item xs ∙ ap (option_map lent_item) (sym (last-get xs) ∙ h))

module _ {P X : Type 0} (path : P → List Bool) where
  pub chain-first : (xs ys : List (P × X)) → IsChain path (xs ++ ys) → IsChain path xs
  chain-first [] ys h = tt
  chain-first (x ∷ xs) ys h = (All-first (λ d. begins (path x.0) (path d.0) ≡ true) xs ys h.0, chain-first xs ys h.1)

  -- if the last prefix of a chain contains a prefix, all do
  pub all-contain : (q : List Bool) (xs : List (P × X)) (e : P × X) → IsChain path xs → last_item xs ≡ Some e → begins (path e.0) q ≡ true
      → filter (λ d. begins (path d.0) q) xs ≡ xs
  all-contain q [] e h is b = refl
  all-contain q (x ∷ []) e h is b =
      let same : begins (path x.0) q ≡ true = All-last (λ d. begins (path x.0) q ≡ begins (path d.0) q) (x ∷ []) e is (All-cons (λ d. begins (path x.0) q ≡ begins (path d.0) q) x [] refl (All-nil (λ d. begins (path x.0) q ≡ begins (path d.0) q))) ∙ b in
      ap (λ t. cond t (x ∷ []) []) same
  all-contain q (x ∷ y ∷ xs) e h is b =
      let first : begins (path x.0) q ≡ true =
      begins-trans (path x.0) (path e.0) q (All-last (λ d. begins (path x.0) (path d.0) ≡ true) (y ∷ xs) e is h.0) b in
      ap (λ t. cond t (x ∷ filter (λ d. begins (path d.0) q) (y ∷ xs)) (filter (λ d. begins (path d.0) q) (y ∷ xs))) first ∙ ap (λ zs. x ∷ zs) (all-contain q (y ∷ xs) e h.1 is b)

  -- removing the last prefix of a chain, which does not contain the prefix, removes none that does
  pub popped : (q : List Bool) (xs ys : List (P × X)) (e : P × X) → xs ≡ ys ++ e ∷ [] → begins (path e.0) q ≡ false
      → filter (λ d. begins (path d.0) q) ys ≡ filter (λ d. begins (path d.0) q) xs
  popped q xs ys e is b =
      sym (append-nil _) ∙ sym (ap (λ t. filter (λ d. begins (path d.0) q) ys ++ cond t (e ∷ []) []) b) ∙ sym (filter-append (λ d. begins (path d.0) q) ys (e ∷ []))
      ∙ sym (ap (filter (λ d. begins (path d.0) q)) is)

-- the item that `pop` removed is the last one
pub popped_item : {X : Type 0} (xs ys : List X) (r : Option X) (e : X) → xs ≡ ys ++ option_to_list r → last_item xs ≡ Some e → (r ≡ None → length xs ≡ 0) → xs ≡ ys ++ e ∷ []
popped_item [] ys None e is last none = cc
popped_item (x ∷ xs) ys None e is last none = absurd (omega (arith, none refl))
popped_item xs ys (Some d) e is last none =
    let same : Some d ≡ Some e = sym (last_pushed ys d) ∙ sym (ap last_item is) ∙ last in
    is ∙ ap (λ o. ys ++ option_to_list o) same

module _ {P T : Type 0} where
  -- filtering lent values and lending the values of a filtered list are the same
  pub filter_lent : (p : P → Bool) (xs : List (P × Bor T)) → map lent_item (filter (λ e. p e.0) xs) ≡ filter (λ e. p e.0) (map lent_item xs)
  filter_lent p [] = refl
  filter_lent p (x ∷ xs) = elim (p x.0) as (λ b. map lent_item (cond b (x ∷ filter (λ e. p e.0) xs) (filter (λ e. p e.0) xs)) ≡ cond b (lent_item x ∷ filter (λ e. p e.0) (map lent_item xs)) (filter (λ e. p e.0) (map lent_item xs))) [
    | true ↦ ap (λ ys. lent_item x ∷ ys) (filter_lent p xs)
    | false ↦ filter_lent p xs
  ]

  pub push_lent : (xs : List (P × Bor T)) (x : P × Bor T) → map lent_item (xs ++ x ∷ []) ≡ map lent_item xs ++ lent_item x ∷ []
  push_lent [] x = refl
  push_lent (y ∷ xs) x = ap (λ zs. lent_item y ∷ zs) (push_lent xs x)

all_filtered : {Y : Type 0} (p : Y → Bool) (xs : List Y) → All (λ d. p d ≡ true) (filter p xs)
all_filtered p [] = All-nil (λ d. p d ≡ true)
all_filtered p (x ∷ xs) = elim (p x) as (λ b. p x ≡ b → All (λ d. p d ≡ true) (cond b (x ∷ filter p xs) (filter p xs))) [
  | true ↦ λ h. All-cons (λ d. p d ≡ true) x (filter p xs) h (all_filtered p xs)
  | false ↦ λ _. all_filtered p xs
] refl

module _ {P X : Type 0} (path : P → List Bool) where
  chain-filter : (p : P × X → Bool) (xs : List (P × X)) → IsChain path xs → IsChain path (filter p xs)
  chain-filter p [] h = tt
  chain-filter p (x ∷ xs) h = elim (p x) as (λ b. IsChain path (cond b (x ∷ filter p xs) (filter p xs))) [
    | true ↦ (All-filter p (λ d. begins (path x.0) (path d.0) ≡ true) xs h.0, chain-filter p xs h.1)
    | false ↦ chain-filter p xs h.1
  ]

  chain-push : (xs : List (P × X)) (x : P × X) → IsChain path xs → All (λ d. begins (path d.0) (path x.0) ≡ true) xs → IsChain path (xs ++ x ∷ [])
  chain-push [] x h a = (All-nil (λ d. begins (path x.0) (path d.0) ≡ true), tt)
  chain-push (y ∷ xs) x h a = (
    All-push (λ d. begins (path y.0) (path d.0) ≡ true) xs x h.0 (All-head (λ d. begins (path d.0) (path x.0) ≡ true) y xs a),
    chain-push xs x h.1 (All-tail (λ d. begins (path d.0) (path x.0) ≡ true) y xs a),
  )

  -- a chain stays one when a prefix is added after those that contain it
  pub chain-next : (xs ys zs : List (P × X)) (x : P × X) → ys ≡ filter (λ d. begins (path d.0) (path x.0)) xs → zs ≡ ys ++ x ∷ [] → IsChain path xs → IsChain path zs
  chain-next xs ys zs x is pushed h =
      subst (IsChain path) (sym (pushed ∙ ap (λ es. es ++ x ∷ []) is))
      (chain-push (filter (λ d. begins (path d.0) (path x.0)) xs) x (chain-filter (λ d. begins (path d.0) (path x.0)) xs h) (all_filtered (λ d. begins (path d.0) (path x.0)) xs))

  pub fits-next : (F : P → Type 0) (xs ys zs : List (P × X)) (x : P × X) → ys ≡ filter (λ d. begins (path d.0) (path x.0)) xs → zs ≡ ys ++ x ∷ [] → F x.0 → All (λ e. F e.0) xs → All (λ e. F e.0) zs
  fits-next F xs ys zs x is pushed f h =
      subst (All (λ e. F e.0)) (sym (pushed ∙ ap (λ es. es ++ x ∷ []) is))
      (All-push (λ e. F e.0) (filter (λ d. begins (path d.0) (path x.0)) xs) x (All-filter (λ d. begins (path d.0) (path x.0)) (λ e. F e.0) xs h) f)
