-- A loop that ranks the values of a table: a new text, the invariant, how one more network preserves it, and what the
-- loop leaves: for `rank_values`.
use Rattle.std.proofs.Common.{◌≡◌, ℕ, suc, zero, ◌<◌, ◌≤◌, Bool, true, false, cond, if◌then◌else◌, List, [], ◌∷◌, ◌++◌, length, get_or, slice_get, Option, Some, None, IfSome, bytes_eq, refl, sym, ap, subst, ◌∙◌, arith}
use Rattle.std.proofs.lemmas.List.{get_or_append_left, length-map}
use Rattle.std.proofs.lemmas.Slice.Eq.{bytes_eq-Decides}
use Rattle.std.specs.Borrow.{Bor}
use Rattle.std.specs.FinMap.{get, get-empty, get-insert}
use Rattle.std.specs.List.{list_any, AllByRecursion, IsDistinct}
use Rattle.std.specs.Ordering.{eq_by_cmp}
use Rattle.std.specs.Option.{option_map}
use Rattle.prefix_trie.specs.Terms.{listing, listing_cmp, no_entries, prefix_pairs, put_all, with_entry, AreWithin, Entries, Leads}
use Rattle.prefix_trie.specs.Laws.Putting.{PutLaws}
use Rattle.prefix_trie_bits.specs.Order.{listing_total}
use Rattle.route_tables.specs.Fewest.{text_at, texts_of, HasRanks, Ranks}
use Rattle.route_tables.specs.Tables.{Values}

-- two borrowed texts are equal
abbrev are_equal : Bor (List ℕ) → Bor (List ℕ) → Bool
are_equal a b = bytes_eq a.now b.now

distinct_texts : (keys : List (Bor (List ℕ))) → IsDistinct are_equal keys → IsDistinct bytes_eq (texts_of keys)
unfolding IsDistinct
distinct_texts [] h = tt
distinct_texts (k ∷ ks) h = (apart ks h.0, distinct_texts ks h.1)
  where
    apart : (ks : List (Bor (List ℕ))) → AllByRecursion (λ y. are_equal k y ≡ false) ks → AllByRecursion (λ y. bytes_eq k.now y ≡ false) (texts_of ks)
    apart [] h = tt
    apart (x ∷ xs) h = (h.0, apart xs h.1)

no_texts : IsDistinct bytes_eq []
unfolding IsDistinct
no_texts = tt

texts_more : (keys : List (Bor (List ℕ))) (key : Bor (List ℕ)) → texts_of (keys ++ key ∷ []) ≡ texts_of keys ++ key.now ∷ []
texts_more [] key = refl
texts_more (k ∷ ks) key = ap (λ ts. k.now ∷ ts) (texts_more ks key)

length_more : (texts : List (List ℕ)) (text : List ℕ) → length (texts ++ text ∷ []) ≡ suc (length texts)
length_more [] text = refl
length_more (t ∷ ts) text = ap suc (length_more ts text)

-- the keys are as many, and the texts before keep their ranks
longer : (keys : List (Bor (List ℕ))) (key : Bor (List ℕ)) (b : Bool) → length (texts_of keys) ≤ length (texts_of (if b then keys else keys ++ key ∷ []))
longer keys key true = omega arith
longer keys key false = omega (arith, ap length (texts_more keys key), length_more (texts_of keys) key.now)

kept : (keys : List (Bor (List ℕ))) (key : Bor (List ℕ)) (b : Bool) (i : ℕ) → i < length (texts_of keys) → text_at (texts_of (if b then keys else keys ++ key ∷ [])) i ≡ text_at (texts_of keys) i
kept keys key true i less = refl
kept keys key false i less = ap (λ ts. text_at ts i) (texts_more keys key) ∙ get_or_append_left (texts_of keys) (key.now ∷ []) [] i less

slot_text : (keys : List (Bor (List ℕ))) (rank : ℕ) (key : Bor (List ℕ)) → slice_get keys rank ≡ Some key → text_at (texts_of keys) rank ≡ key.now
slot_text [] rank key at = absurd (cc)
slot_text (k ∷ ks) zero key at = ap (text_or key.now) at
  where
    text_or : List ℕ → Option (Bor (List ℕ)) → List ℕ
    text_or d None = d
    text_or d (Some k) = k.now
slot_text (k ∷ ks) (suc rank) key at = slot_text ks rank key at

-- a rank has the text that is read there, and none if it is too large
pub text_read : (keys : List (Bor (List ℕ))) (rank : ℕ) (d : Bor (List ℕ)) → rank < length keys → (get_or keys rank d).now ≡ text_at (texts_of keys) rank
text_read [] rank d less = absurd (omega arith)
text_read (k ∷ ks) zero d less = refl
text_read (k ∷ ks) (suc rank) d less = text_read ks rank d (omega arith)

pub text_past : (keys : List (Bor (List ℕ))) (rank : ℕ) → length keys ≤ rank → [] ≡ text_at (texts_of keys) rank
text_past [] rank past = refl
text_past (k ∷ ks) zero past = absurd (omega arith)
text_past (k ∷ ks) (suc rank) past = text_past ks rank (omega arith)

-- what an insertion of a text promises gives its rank
pub ranks_text : (keys after : List (Bor (List ℕ))) (key : Bor (List ℕ)) (rank : ℕ) → after ≡ (if list_any (are_equal key) keys then keys else keys ++ key ∷ [])
    → IsDistinct are_equal after → rank < length after → ((k : Bor (List ℕ)) × (slice_get after rank ≡ Some k) × (are_equal key k ≡ true))
    → Ranks (texts_of keys) (texts_of after) key.now rank
ranks_text keys after key rank added distinct less stored = record {
  distinct = distinct_texts after distinct;
  longer = subst (λ ks. length (texts_of keys) ≤ length (texts_of ks)) (sym added) (longer keys key (list_any (are_equal key) keys));
  kept = λ i within. ap (λ ks. text_at (texts_of ks) i) added ∙ kept keys key (list_any (are_equal key) keys) i within;
  within = omega (arith, less, length-map after (λ k. k.now));
  is_text = slot_text after rank stored.0 stored.1 ∙ sym ((bytes_eq-Decides key.now stored.0.now).0 stored.2);
}

-- the ranks after one more network
has_one_more : (texts after : List (List ℕ)) (text : List ℕ) (rank : ℕ) (ranks next : Entries ℕ) (m : Values) (s : List Bool) → Ranks texts after text rank → next ≡ with_entry ranks s rank
    → HasRanks texts ranks m → HasRanks after next (with_entry m s text)
has_one_more texts after text rank ranks next m s new set old = record {
  distinct = new.distinct;
  within = λ t. subst (λ o. IfSome o (λ r. r < length after)) (sym (here t)) (within t (eq_by_cmp listing_cmp t s));
  named = λ t. ap (option_map (text_at after)) (here t) ∙ named t (eq_by_cmp listing_cmp t s) ∙ sym (get-insert listing_total m s text t);
}
  where
    here : (t : List Bool) → get next t ≡ cond (eq_by_cmp listing_cmp t s) (Some rank) (get ranks t)
    here t = ap (λ n. get n t) set ∙ get-insert listing_total ranks s rank t

    later : (o : Option ℕ) → IfSome o (λ r. r < length texts) → IfSome o (λ r. r < length after)
    later None h = tt
    later (Some r) h = omega (arith, h, new.longer)

    within : (t : List Bool) (b : Bool) → IfSome (cond b (Some rank) (get ranks t)) (λ r. r < length after)
    within t true = new.within
    within t false = later (get ranks t) (old.within t)

    same : (o : Option ℕ) → IfSome o (λ r. r < length texts) → option_map (text_at after) o ≡ option_map (text_at texts) o
    same None h = refl
    same (Some r) h = ap Some (new.kept r h)

    named : (t : List Bool) (b : Bool) → option_map (text_at after) (cond b (Some rank) (get ranks t)) ≡ cond b (Some text) (get m t)
    named t true = ap Some new.is_text
    named t false = same (get ranks t) (old.within t) ∙ old.named t

module _ {P : Type 0} (path : P → List Bool) (IsFitting : P → Type 0) where
  -- the invariant: the networks so far have ranks, and with those still to come they are all
  pub record Ranking (left : List (P × List ℕ)) (texts : List (List ℕ)) (ranks : Entries ℕ) (whole : Values) : Type 0 where
    pub so_far : Values
    pub leads : Leads path IsFitting left so_far whole
    pub has : HasRanks texts ranks so_far

  module _ (width : ℕ) (back : List Bool → P) (laws : PutLaws (List ℕ) width path IsFitting back) where
    pub ranking_start : (whole : Values) → AreWithin width whole → (walk : List (P × List ℕ)) → walk ≡ prefix_pairs back (listing whole)
        → (texts : List (List ℕ)) → texts ≡ [] → (ranks : Entries ℕ) → ranks ≡ no_entries → Ranking walk texts ranks whole
    ranking_start whole within walk is texts none ranks empty = record {
      so_far = no_entries;
      leads = laws.starts_empty whole no_entries within refl walk is;
      has = subst (λ ts. HasRanks ts ranks no_entries) (sym none) (subst (λ r. HasRanks [] r no_entries) (sym empty) (record {
        distinct = no_texts;
        within = λ s. subst (λ o. IfSome o (λ rank. rank < 0)) (sym (get-empty listing_cmp s)) tt;
        named = λ s. ap (option_map (text_at [])) (get-empty listing_cmp s) ∙ sym (get-empty listing_cmp s);
      }));
    }

    pub ranking_fits : (item : P × List ℕ) (rest left : List (P × List ℕ)) (texts : List (List ℕ)) (ranks : Entries ℕ) (whole : Values) → left ≡ item ∷ rest
        → Ranking left texts ranks whole → IsFitting item.0
    ranking_fits item rest left texts ranks whole split old = laws.next_fits old.so_far whole item rest left split old.leads

    pub ranking_on : (item : P × List ℕ) (rest left : List (P × List ℕ)) (texts after : List (List ℕ)) (rank : ℕ) (ranks next : Entries ℕ) (whole : Values)
        → left ≡ item ∷ rest → Ranks texts after item.1 rank → next ≡ with_entry ranks (path item.0) rank → Ranking left texts ranks whole → Ranking rest after next whole
    ranking_on item rest left texts after rank ranks next whole split new set old = record {
      so_far = with_entry old.so_far (path item.0) item.1;
      leads = laws.goes_on old.so_far (with_entry old.so_far (path item.0) item.1) whole item rest left split refl old.leads;
      has = has_one_more texts after item.1 rank ranks next old.so_far (path item.0) new set old.has;
    }

  -- after the last network all have ranks
  pub ranking_end : (left : List (P × List ℕ)) (texts : List (List ℕ)) (ranks : Entries ℕ) (whole : Values) → left ≡ [] → Ranking left texts ranks whole → HasRanks texts ranks whole
  ranking_end left texts ranks whole none old =
      subst (HasRanks texts ranks) (subst (λ l. put_all path l old.so_far ≡ whole) none old.leads.1) old.has
