-- The items of a walk that pass a test are the listing of the entries that pass it: for the walks over differences. And
-- the prefixes of items: for walks over sets.
use Rattle.std.proofs.Common.{◌≡◌, ◌∙◌, Bool, cond, true, false, List, [], ◌∷◌, map, filter, ap, sym, subst, refl, All}
use Rattle.std.proofs.lemmas.List.Elements.{All-cons, All-head, All-nil, All-tail}
use Rattle.std.specs.List.{Contains}
use Rattle.std.specs.FinMap.{retain_keys}
use Rattle.prefix_trie_bits.proofs.Model.SortedListings.{entries-retained}
use Rattle.prefix_trie.specs.Terms.{Entries, listing, prefix_pairs}
use Rattle.prefix_trie_ops.proofs.Lists.{contains_here, contains_later}

module _ {P T' : Type 0} (path : P → List Bool) (back : List Bool → P) (p : List Bool → Bool) where
  filter_shown : (es : List (List Bool × T')) → ((e : List Bool × T') → Contains es e → path (back e.0) ≡ e.0)
      → filter (λ e. p (path e.0)) (prefix_pairs back es) ≡ prefix_pairs back (filter (λ e. p e.0) es)
  filter_shown [] known = refl
  filter_shown (x ∷ es) known =
      ap (λ s. cond (p s) ((back x.0, x.1) ∷ filter (λ e. p (path e.0)) (prefix_pairs back es)) (filter (λ e. p (path e.0)) (prefix_pairs back es))) (known x (contains_here x es))
      ∙ ap (λ ys. cond (p x.0) ((back x.0, x.1) ∷ ys) ys) (filter_shown es (λ e at. known e (contains_later x e es at)))
      ∙ (elim (p x.0) as (λ b. cond b ((back x.0, x.1) ∷ prefix_pairs back (filter (λ e. p e.0) es)) (prefix_pairs back (filter (λ e. p e.0) es)) ≡ prefix_pairs back (cond b (x ∷ filter (λ e. p e.0) es) (filter (λ e. p e.0) es))) [
        | true ↦ refl
        | false ↦ refl
      ])

  pub selected : (m : Entries T') → ((e : List Bool × T') → Contains (listing m) e → path (back e.0) ≡ e.0)
      → filter (λ e. p (path e.0)) (prefix_pairs back (listing m)) ≡ prefix_pairs back (listing (retain_keys m p))
  selected m known = filter_shown (listing m) known ∙ sym (ap (prefix_pairs back) (entries-retained m p))

-- the prefixes of a map's items are those of its keys
pub prefixes_shown : {P X : Type 0} (back : List Bool → P) (es : List (List Bool × X)) → map (λ e. e.0) (prefix_pairs back es) ≡ map (λ e. back e.0) es
prefixes_shown back [] = refl
prefixes_shown back (x ∷ es) = ap (λ ps. back x.0 ∷ ps) (prefixes_shown back es)

-- the prefixes of items fit if the items do
pub prefixes_fit : {P X : Type 0} (F : P → Type 0) (xs : List (P × X)) → All (λ e. F e.0) xs → All F (map (λ e. e.0) xs)
prefixes_fit F [] h = All-nil F
prefixes_fit F (x ∷ xs) h = All-cons F x.0 (map (λ e. e.0) xs) (All-head (λ e. F e.0) x xs h) (prefixes_fit F xs (All-tail (λ e. F e.0) x xs h))

-- the keys of a listing fit if its items do
pub keys_fit : {P X : Type 0} (F : P → Type 0) (back : List Bool → P) (es : List (List Bool × X)) → All (λ e. F e.0) (prefix_pairs back es) → All F (map (λ e. back e.0) es)
keys_fit F back es h = subst (All F) (prefixes_shown back es) (prefixes_fit F (prefix_pairs back es) h)
