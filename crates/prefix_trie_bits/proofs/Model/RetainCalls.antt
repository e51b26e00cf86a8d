-- `retain` calls its test on each entry in order: which entries are kept, and that they stay sorted.
use Rattle.prefix_trie_bits.proofs.Prelude.{◌≡◌, Bool, true, false, List, [], ◌∷◌, ap, sym, ◌∙◌, subst, filter, cond, is_lt, ◌&&◌, below_all, listing_cmp, RetainsEntries, RetainsEntriesTo, CallableOnEachEntry}
use lib.Dec.{T as IsT}
use Rattle.prefix_trie_bits.proofs.Model.Members.{and-first, and-second, and-join}
use Rattle.prefix_trie_bits.proofs.Model.SortedListings.{t-true, true-t}

module _ {F T : Type 0} (may_return : F → List Bool → T → Bool → F → Type 0) where
  -- a test that may be called in every state may be called on each entry in order
  pub may_ask_always : (accepts : F → List Bool → T → Type 0) (f : F) (es : List (List Bool × T)) → ((f' : F) (k : List Bool) (v : T) → accepts f' k v) → CallableOnEachEntry may_return accepts f es
  may_ask_always accepts f [] always = tt
  may_ask_always accepts f (e ∷ es) always = (always f e.0 e.1, λ b f' called. may_ask_always accepts f' es always)

  -- what a test keeps, without the state in which the last call leaves it
  pub retains-from_to : (f : F) (es kept : List (List Bool × T)) (g : F) → RetainsEntriesTo may_return f es kept g → RetainsEntries may_return f es kept
  retains-from_to f [] kept g h = h.0
  retains-from_to f (e ∷ es) kept g (b, f', later, called, rest, is) = (b, f', later, called, retains-from_to f' es later g rest, is)

  -- what no call changes of a test is the same after the last call
  pub unchanged_to : {N : Type 0} (name_of : F → N) → ((f : F) (k : List Bool) (v : T) (b : Bool) (f' : F) → may_return f k v b f' → name_of f' ≡ name_of f)
      → (f : F) (es kept : List (List Bool × T)) (g : F) → RetainsEntriesTo may_return f es kept g → name_of g ≡ name_of f
  unchanged_to name_of same f [] kept g is = ap name_of is.1
  unchanged_to name_of same f (e ∷ es) kept g (b, f', later, called, rest, is) = unchanged_to name_of same f' es later g rest ∙ same f e.0 e.1 b f' called

  -- a test that returns p of the entry and has no state keeps what `filter p` keeps
  pub keeps_filter : (p : List Bool × T → Bool) (f : F) (es kept : List (List Bool × T)) → ((e : List Bool × T) (b : Bool) (f' : F) → may_return f e.0 e.1 b f' → (b ≡ p e) × (f' ≡ f))
      → RetainsEntries may_return f es kept → kept ≡ filter p es
  keeps_filter p f [] kept answers h = h
  keeps_filter p f (e ∷ es) kept answers (b, f', later, called, rest, is) =
      let says = answers e b f' called in
      let same = keeps_filter p f es later answers (subst (λ g. RetainsEntries may_return g es later) says.1 rest) in
      is ∙ ap (λ x. cond x (e ∷ later) later) says.0 ∙ ap (λ xs. cond (p e) (e ∷ xs) xs) same

-- the entries that are kept of a sorted list are sorted
module _ {F T : Type 0} (may_return : F → List Bool → T → Bool → F → Type 0) where
  below_kept : (s : List Bool) (f : F) (es kept : List (List Bool × T)) → RetainsEntries may_return f es kept → IsT (below_all listing_cmp s es) → IsT (below_all listing_cmp s kept)
  below_kept s f [] kept h b = subst (λ x. IsT (below_all listing_cmp s x)) (sym h) tt
  below_kept s f (e ∷ es) kept (true, f', later, called, rest, is) b =
      let all = t-true (is_lt (listing_cmp s e.0) && below_all listing_cmp s es) b in
      subst (λ x. IsT (below_all listing_cmp s x)) (sym is)
      (true-t (is_lt (listing_cmp s e.0) && below_all listing_cmp s later)
      (and-join (is_lt (listing_cmp s e.0)) (below_all listing_cmp s later) (and-first (is_lt (listing_cmp s e.0)) (below_all listing_cmp s es) all)
      (t-true (below_all listing_cmp s later) (below_kept s f' es later rest (true-t (below_all listing_cmp s es) (and-second (is_lt (listing_cmp s e.0)) (below_all listing_cmp s es) all))))))
  below_kept s f (e ∷ es) kept (false, f', later, called, rest, is) b =
      let all = t-true (is_lt (listing_cmp s e.0) && below_all listing_cmp s es) b in
      subst (λ x. IsT (below_all listing_cmp s x)) (sym is)
      (below_kept s f' es later rest (true-t (below_all listing_cmp s es) (and-second (is_lt (listing_cmp s e.0)) (below_all listing_cmp s es) all)))
