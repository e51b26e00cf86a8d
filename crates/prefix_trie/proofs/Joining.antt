-- The laws of a loop that joins the values of one map to those of another, which are its invariant and its result: for
-- `join_laws`.
use Rattle.prefix_trie.proofs.Prelude.{◌≡◌, ℕ, Bool, true, false, cond, T, List, [], ◌∷◌, Some, refl, sym, ap, ◌∙◌, entries_sorted, get, get-entries, is_sorted, find, All-head, All-tail, All-same, PrefixLaws, listing_cmp, same_string, Entries, with_entry, listing, prefix_pairs, get-with_entry, same_string-is, sorted-tail, JoinLaws, join_all, joined_by, with_value, listed_fit, listed_paths}
use lib.Dec.{T as IsT}
use Rattle.std.specs.List.{All}
use Rattle.prefix_trie.proofs.Putting.{fit_in_order, not_behind}

module _ {P T : Type 0} (join : T → T → T) (path : P → List Bool) (back : List Bool → P) where
  -- joining pairs in order joins the value of each key to its value among the pairs
  pairs_joined : (es : List (List Bool × T)) (to : Entries T) → IsT (is_sorted listing_cmp es) → All (λ e. path (back e.0) ≡ e.0) es → (s : List Bool) →
      get (join_all join path (prefix_pairs back es) to) s ≡ joined_by join (get to s) (find listing_cmp s es)
  pairs_joined [] to sorted paths s = refl
  pairs_joined (x ∷ es) to sorted paths s =
      pairs_joined es (with_entry to (path (back x.0)) (with_value join (get to (path (back x.0))) x.1)) (sorted-tail x es sorted) (All-tail (λ e. path (back e.0) ≡ e.0) x es paths) s
      ∙ ap (λ k. joined_by join (get (with_entry to k (with_value join (get to k) x.1)) s) (find listing_cmp s es)) (All-head (λ e. path (back e.0) ≡ e.0) x es paths)
      ∙ ap (λ o. joined_by join o (find listing_cmp s es)) (get-with_entry to x.0 (with_value join (get to x.0) x.1) s)
      ∙ elim (same_string s x.0) as (λ b. same_string s x.0 ≡ b → joined_by join (cond b (Some (with_value join (get to x.0) x.1)) (get to s)) (find listing_cmp s es)
      ≡ joined_by join (get to s) (cond b (Some x.1) (find listing_cmp s es))) [
        | true ↦ λ same.
            ap (joined_by join (Some (with_value join (get to x.0) x.1))) (not_behind path back x es s sorted same)
            ∙ ap (λ k. Some (with_value join (get to k) x.1)) (sym (same_string-is s x.0 same))
        | false ↦ λ _. refl
      ] refl

pub join_laws : {K P : Type 0} {w : ℕ} {IsKey : K → Type 0} {bits : K → List Bool} {key_of : List Bool → K} {repr_of : P → K} {len_of : P → ℕ} {path : P → List Bool} {IsFitting : P → Type 0} {from_parts : K → ℕ → P} {back : List Bool → P} →
    PrefixLaws w IsKey bits key_of repr_of len_of path IsFitting from_parts back → (T : Type 0) → JoinLaws T w path IsFitting back
join_laws {path = path} {IsFitting = IsFitting} {back = back} laws T = record {
  starts = λ join from to within walk gives.
      (All-same (λ e. IsFitting e.0) walk (prefix_pairs back (listing from)) gives (listed_fit laws from within), ap (λ xs. join_all join path xs to) gives);
  next_fits = λ join now whole item rest left first joins. (fit_in_order IsFitting first joins.0).0;
  goes_on = λ join now next whole item rest left first put joins. (
    (fit_in_order IsFitting first joins.0).1,
    ap (join_all join path rest) put ∙ ap (λ xs. join_all join path xs now) (sym first) ∙ joins.1,
  );
  joined = λ join from to within s.
      pairs_joined join path back (listing from) to (entries_sorted from) (listed_paths laws from within) s
      ∙ ap (joined_by join (get to s)) (sym (get-entries from s));
}
