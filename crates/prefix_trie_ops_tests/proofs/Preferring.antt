-- The preferred values of a union, put into an empty table.
use Rattle.std.proofs.Common.{◌≡◌, ◌∙◌, Bool, true, false, cond, List, [], ◌∷◌, map, Option, None, Some, ap, sym, refl, T}
use Rattle.std.specs.List.{Contains}
use Rattle.std.specs.Option.{option_map, option_or}
use Rattle.std.specs.FinMap.{entries_sorted, get, get-entries}
use Rattle.std.specs.FinMap.Entries.{below_all, find, is_sorted}
use Rattle.prefix_trie_bits.specs.Model.Order.{listing_cmp, same_string}
use Rattle.prefix_trie.specs.Laws.Stored.{StoredLaws}
use Rattle.prefix_trie.specs.Terms.{Entries, listing, no_entries, put_all, prefix_pairs, with_entry}
use Rattle.prefix_trie_ops.specs.Merging.{sides, union_of}
use Rattle.prefix_trie_ops.specs.declared.map.sides.Side.{Side}
use Rattle.prefix_trie_ops.proofs.Lists.{contains_here, contains_later}
use Rattle.prefix_trie_ops.proofs.Sorted.{find_before, same_is, t_first, t_second}
use Rattle.prefix_trie_ops_tests.specs.Preferences.{preferred_of}
use Rattle.prefix_trie_ops_tests.proofs.Updating.{apart}

-- an item of the union with its preferred value
abbrev pub preferred_item : {P T' : Type 0} → P × Side T' T' → P × T'
preferred_item e = (e.0, preferred_of e.1)

module _ {T' : Type 0} (laws : StoredLaws T') where
  -- what all items leave at a key
  at_all : (es : List (List Bool × Side T' T')) → T (is_sorted listing_cmp es) → (m : Entries T') (s : List Bool)
      → get (put_all (λ t. t) (map preferred_item es) m) s ≡ option_or (option_map preferred_of (find listing_cmp s es)) (get m s)
  at_all [] h m s = refl
  at_all (e ∷ es) h m s =
      let below = t_first (below_all listing_cmp e.0 es) (is_sorted listing_cmp es) h in
      let rest = at_all es (t_second (below_all listing_cmp e.0 es) (is_sorted listing_cmp es) h) (with_entry m e.0 (preferred_of e.1)) s in
      elim (same_string s e.0) as (λ b. same_string s e.0 ≡ b → get (put_all (λ t. t) (map preferred_item (e ∷ es)) m) s ≡ option_or (option_map preferred_of (cond b (Some e.1) (find listing_cmp s es))) (get m s)) [
        | true ↦ λ o.
            let is : s ≡ e.0 = same_is s e.0 o in
            let none : find listing_cmp s es ≡ None = ap (λ t. find listing_cmp t es) is ∙ find_before e.0 es below in
            rest ∙ ap (λ f. option_or (option_map preferred_of f) (get (with_entry m e.0 (preferred_of e.1)) s)) none
            ∙ ap (get (with_entry m e.0 (preferred_of e.1))) is ∙ laws.set m e.0 (preferred_of e.1)
        | false ↦ λ o. rest ∙ ap (option_or (option_map preferred_of (find listing_cmp s es))) (laws.beside_set m e.0 (preferred_of e.1) s (apart s e.0 o))
      ] refl

  module _ {P : Type 0} (path : P → List Bool) (back : List Bool → P) where
    by_prefixes : (es : List (List Bool × Side T' T')) → ((e : List Bool × Side T' T') → Contains es e → path (back e.0) ≡ e.0)
        → (m : Entries T') → put_all path (map preferred_item (prefix_pairs back es)) m ≡ put_all (λ t. t) (map preferred_item es) m
    by_prefixes [] known m = refl
    by_prefixes (e ∷ es) known m =
        ap (λ s. put_all path (map preferred_item (prefix_pairs back es)) (with_entry m s (preferred_of e.1))) (known e (contains_here e es))
        ∙ by_prefixes es (λ d at. known d (contains_later e d es at)) (with_entry m e.0 (preferred_of e.1))

    -- put into an empty table, the preferred values of the union are the left map's, or else the right one's
    pub all_preferred : (m n whole : Entries T') → ((s : List Bool) → get (union_of m n) s ≡ sides (get m s) (get n s))
        → ((e : List Bool × Side T' T') → Contains (listing (union_of m n)) e → path (back e.0) ≡ e.0)
        → whole ≡ put_all path (map preferred_item (prefix_pairs back (listing (union_of m n)))) no_entries
        → (s : List Bool) → get whole s ≡ option_or (get m s) (get n s)
    all_preferred m n whole at known is s =
        ap (λ x. get x s) is ∙ ap (λ x. get x s) (by_prefixes (listing (union_of m n)) known no_entries)
        ∙ at_all (listing (union_of m n)) (entries_sorted (union_of m n)) no_entries s
        ∙ ap (option_or (option_map preferred_of (find listing_cmp s (listing (union_of m n))))) (laws.nothing s)
        ∙ ap (λ f. option_or (option_map preferred_of f) None) (sym (get-entries (union_of m n) s) ∙ at s)
        ∙ go (get m s) (get n s)
      where
        go : (v w : Option T') → option_or (option_map preferred_of (sides v w)) None ≡ option_or v w
        go None None = refl
        go None (Some w) = refl
        go (Some v) None = refl
        go (Some v) (Some w) = refl
