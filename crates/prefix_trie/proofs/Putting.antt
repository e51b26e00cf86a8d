-- The laws of a loop that inserts the entries of one map into another, which are its invariant and its result: for
-- `put_laws`.
use Rattle.prefix_trie.proofs.Prelude.{◌≡◌, ℕ, Bool, true, false, cond, T, List, [], ◌∷◌, Option, Some, None, refl, sym, ap, ◌∙◌, option_or, entries_sorted, get, get-entries, is_sorted, find, All-head, All-tail, All-same, PrefixLaws, listing_cmp, same_string, Entries, AreWithin, no_entries, put_all, with_entry, listing, prefix_pairs, get-with_entry, same_string-is, same_entries, each-behind, not_itself, sorted-head, sorted-tail, Leads, PutLaws, listed_fit, listed_paths}
use lib.Dec.{T as IsT}
use Rattle.std.specs.List.{All}
use Rattle.prefix_trie.proofs.Stored.{stored_laws}

-- if all prefixes of a list fit, the first one does and the others do
pub fit_in_order : {P T : Type 0} (IsFitting : P → Type 0) {item : P × T} {rest left : List (P × T)} → left ≡ item ∷ rest → All (λ e. IsFitting e.0) left → IsFitting item.0 × All (λ e. IsFitting e.0) rest
fit_in_order IsFitting {item = item} {rest = rest} {left = left} first fit =
    let both = All-same (λ e. IsFitting e.0) (item ∷ rest) left (sym first) fit in
    (All-head (λ e. IsFitting e.0) item rest both, All-tail (λ e. IsFitting e.0) item rest both)

module _ {P T : Type 0} (path : P → List Bool) (IsFitting : P → Type 0) where
  -- the prefix to insert next fits
  pub next_fits : (now : Entries T) {item : P × T} {rest left : List (P × T)} {whole : Entries T} → left ≡ item ∷ rest → Leads path IsFitting left now whole → IsFitting item.0
  next_fits now first leads = (fit_in_order IsFitting first leads.0).0

  -- after it is inserted, the rest still leads to the whole
  pub leads_on : (now : Entries T) {item : P × T} {rest left : List (P × T)} {then whole : Entries T} → left ≡ item ∷ rest → then ≡ with_entry now (path item.0) item.1 → Leads path IsFitting left now whole → Leads path IsFitting rest then whole
  leads_on now {rest = rest} first put leads =
      ((fit_in_order IsFitting first leads.0).1, ap (put_all path rest) put ∙ ap (λ xs. put_all path xs now) (sym first) ∙ leads.1)

module _ {P T : Type 0} (path : P → List Bool) (back : List Bool → P) where
  -- a string that is first in a sorted list is not found after it
  pub not_behind : (x : List Bool × T) (es : List (List Bool × T)) (s : List Bool) → IsT (is_sorted listing_cmp (x ∷ es)) → same_string s x.0 ≡ true → find listing_cmp s es ≡ None
  not_behind x es s sorted same = elim (find listing_cmp s es) as (λ o. find listing_cmp s es ≡ o → o ≡ None) [
    | None ↦ λ _. refl
    | Some v ↦ λ found. absurd (not_itself x.0 s (each-behind x.0 es s v (sorted-head x es sorted) found) (sym (same_string-is s x.0 same)))
  ] refl

  -- inserting pairs in order: each key has its value among them, or the value it had
  pairs_put : (es : List (List Bool × T)) (to : Entries T) → IsT (is_sorted listing_cmp es) → All (λ e. path (back e.0) ≡ e.0) es → (s : List Bool) →
      get (put_all path (prefix_pairs back es) to) s ≡ option_or (find listing_cmp s es) (get to s)
  pairs_put [] to sorted paths s = refl
  pairs_put (x ∷ es) to sorted paths s =
      pairs_put es (with_entry to (path (back x.0)) x.1) (sorted-tail x es sorted) (All-tail (λ e. path (back e.0) ≡ e.0) x es paths) s
      ∙ ap (λ k. option_or (find listing_cmp s es) (get (with_entry to k x.1) s)) (All-head (λ e. path (back e.0) ≡ e.0) x es paths)
      ∙ ap (λ o. option_or (find listing_cmp s es) o) (get-with_entry to x.0 x.1 s)
      ∙ elim (same_string s x.0) as (λ b. same_string s x.0 ≡ b → option_or (find listing_cmp s es) (cond b (Some x.1) (get to s)) ≡ option_or (cond b (Some x.1) (find listing_cmp s es)) (get to s)) [
        | true ↦ λ same. ap (λ o. option_or o (Some x.1)) (not_behind x es s sorted same)
        | false ↦ λ _. refl
      ] refl

  -- inserting pairs under the paths of their prefixes is inserting them under their strings
  pairs_listed : (es : List (List Bool × T)) (to : Entries T) → All (λ e. path (back e.0) ≡ e.0) es → put_all path (prefix_pairs back es) to ≡ put_all (λ s. s) es to
  pairs_listed [] to paths = refl
  pairs_listed (x ∷ es) to paths =
      pairs_listed es (with_entry to (path (back x.0)) x.1) (All-tail (λ e. path (back e.0) ≡ e.0) x es paths)
      ∙ ap (λ k. put_all (λ s. s) es (with_entry to k x.1)) (All-head (λ e. path (back e.0) ≡ e.0) x es paths)

or_none : {T : Type 0} (o : Option T) → option_or o None ≡ o
or_none None = refl
or_none (Some v) = refl

module _ {K P : Type 0} {w : ℕ} {IsKey : K → Type 0} {bits : K → List Bool} {key_of : List Bool → K} {repr_of : P → K} {len_of : P → ℕ} {path : P → List Bool} {IsFitting : P → Type 0} {from_parts : K → ℕ → P} {back : List Bool → P} (laws : PrefixLaws w IsKey bits key_of repr_of len_of path IsFitting from_parts back) {T : Type 0} (from : Entries T) (within : AreWithin w from) where
  -- a walk over a whole map leads to the map with all its entries
  pub all_lead : (to : Entries T) (walk : List (P × T)) → walk ≡ prefix_pairs back (listing from) → Leads path IsFitting walk to (put_all path (prefix_pairs back (listing from)) to)
  all_lead to walk gives =
      (All-same (λ e. IsFitting e.0) walk (prefix_pairs back (listing from)) gives (listed_fit laws from within), ap (λ xs. put_all path xs to) gives)

  map_put : (to : Entries T) (s : List Bool) → get (put_all path (prefix_pairs back (listing from)) to) s ≡ option_or (get from s) (get to s)
  map_put to s =
      pairs_put path back (listing from) to (entries_sorted from) (listed_paths laws from within) s
      ∙ ap (λ o. option_or o (get to s)) (sym (get-entries from s))

  copied : put_all path (prefix_pairs back (listing from)) no_entries ≡ from
  copied = same_entries (put_all path (prefix_pairs back (listing from)) no_entries) from (λ s. map_put no_entries s ∙ ap (option_or (get from s)) ((stored_laws T).nothing s) ∙ or_none (get from s))

  -- inserted into an empty map, a walk gives the whole map
  starts_empty : (to : Entries T) → to ≡ no_entries → (walk : List (P × T)) → walk ≡ prefix_pairs back (listing from) → Leads path IsFitting walk to from
  starts_empty to empty walk gives =
      let leads = all_lead to walk gives in
      (leads.0, leads.1 ∙ ap (put_all path (prefix_pairs back (listing from))) empty ∙ copied)

pub put_laws : {K P : Type 0} {w : ℕ} {IsKey : K → Type 0} {bits : K → List Bool} {key_of : List Bool → K} {repr_of : P → K} {len_of : P → ℕ} {path : P → List Bool} {IsFitting : P → Type 0} {from_parts : K → ℕ → P} {back : List Bool → P} →
    PrefixLaws w IsKey bits key_of repr_of len_of path IsFitting from_parts back → (T : Type 0) → PutLaws T w path IsFitting back
put_laws {path = path} {IsFitting = IsFitting} laws T = record {
  starts = λ from to within. all_lead laws from within to;
  starts_empty = λ from to within. starts_empty laws from within to;
  next_fits = λ now whole item rest left. next_fits path IsFitting now;
  goes_on = λ now next whole item rest left. leads_on path IsFitting now;
  put = λ from to within. map_put laws from within to;
  listed = λ from to within. pairs_listed _ _ (listing from) to (listed_paths laws from within);
  copied = λ from within. copied laws from within;
}
