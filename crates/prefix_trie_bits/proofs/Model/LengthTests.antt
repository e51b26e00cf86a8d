-- A test that compares the length of the prefix keeps the keys of at least that length: for `RetainAtLeast`, the call
-- of a run.
use Rattle.prefix_trie_bits.proofs.Prelude.{◌≡◌, ◌≤◌, ℕ, Bool, true, false, List, length, filter, cond, nat_le, is_some, Option, Some, None, ap, sym, ◌∙◌, refl, subst, get, find, retain_keys, get-entries, get-retain_keys, listing_cmp, listing_same, Entries, AreWithin, part_at_least, needed, listing, State, RetainAtLeast, Reply, Done, Refused, Storage, StepInStorage, RetainsInStorage}
use Rattle.prefix_trie_bits.specs.declared.prefix.Refusal.{Refusal}
use Rattle.prefix_trie_bits.proofs.Model.RetainCalls.{keeps_filter}
use Rattle.prefix_trie_bits.proofs.Model.Members.{get-part_at_least, same_entries}
use Rattle.prefix_trie_bits.proofs.Model.SortedListings.{entries-retained}

none_either : {T : Type 0} (a b : Bool) → ◌≡◌ {A = Option T} (cond a None None) (cond b None None)
none_either true true = refl
none_either false true = refl
none_either a b = refl

module _ {T : Type 0} where
  -- two tests that agree at a stored key keep the same there
  same_test : (a b : Bool) (o o' : Option T) → o ≡ o' → (is_some o ≡ true → a ≡ b) → cond a o None ≡ cond b o None
  same_test a b o None e same = subst (λ x. cond a x None ≡ cond b x None) (sym e) (none_either a b)
  same_test a b o (Some v) e same = ap (λ t. cond t o None) (same (ap is_some e))

  -- if the listing is what a test of shown lengths keeps, and a shown length is the length of the key, the entries are
  -- those of at least that length
  part_from_listing : (width n : ℕ) (shown : List Bool → ℕ) (old new : Entries T) → AreWithin width old → ((s : List Bool) → length s ≤ width → shown s ≡ length s) →
      listing new ≡ filter (λ e. nat_le n (shown e.0)) (listing old) → new ≡ part_at_least old n
  part_from_listing width n shown old new within lengths kept =
      let p : List Bool → Bool = λ s. nat_le n (shown s) in
      let listed : listing new ≡ listing (retain_keys old p) = kept ∙ sym (entries-retained old p) in
      same_entries new (retain_keys old p) (λ s. get-entries new s ∙ ap (find listing_cmp s) listed ∙ sym (get-entries (retain_keys old p) s))
      ∙ same_entries (retain_keys old p) (part_at_least old n)
      (λ s. get-retain_keys old p s (λ x e. ap p (sym (listing_same s x e))) ∙ same_test (p s) (nat_le n (length s)) (get old s) (get old s) refl (λ has. ap (nat_le n) (lengths s (within s has)))
      ∙ sym (get-part_at_least old n s))

module _ {P T : Type 0} (path : P → List Bool) (back : List Bool → P) (width : ℕ) where
  not_refused : (cause : Refusal) → ◌≡◌ {A = Reply P T} Done (Refused cause) → ⊥
  not_refused cause e = cc

  -- calling a test that compares the shown length keeps the keys of at least that length
  pub at_least_step : {F : Type 0} (may_return : F → List Bool → T → Bool → F → Type 0) (f : F) (n : ℕ) (shown : List Bool → ℕ) (s t : State T × Storage) →
      AreWithin width s.0.entries → ((k : List Bool) → length k ≤ width → shown k ≡ length k)
      → ((e : List Bool × T) (b : Bool) (f' : F) → may_return f e.0 e.1 b f' → (b ≡ nat_le n (shown e.0)) × (f' ≡ f))
      → RetainsInStorage may_return f s t → StepInStorage path back width s (RetainAtLeast n) Done t
  at_least_step may_return f n shown s t within lengths answers h =
      let kept = part_from_listing width n shown s.0.entries t.0.entries within lengths
      (keeps_filter may_return (λ e. nat_le n (shown e.0)) f (listing s.0.entries) (listing t.0.entries) answers h.kept) in
      record {
        step = (refl, λ i. record { entries = kept i; nodes = (h.nodes ∙ ap needed kept) i });
        space = h.space;
        index_range = λ e. absurd (not_refused _ e);
        storage = h.storage;
      }
