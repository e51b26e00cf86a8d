-- The laws of the maps made of two maps: for `combining_laws`.
use Rattle.std.proofs.Common.{◌≡◌, ◌∙◌, not, Bool, true, false, cond, List, None, is_some, ap, sym, refl}
use Rattle.std.specs.FinMap.{contains_key, get, get-retain_keys, retain_keys}
use Rattle.prefix_trie_bits.specs.Order.{listing_same}
use Rattle.prefix_trie.specs.Terms.{Entries, shortest_match}
use Rattle.prefix_trie_ops.specs.Combining.{minus}
use Rattle.prefix_trie_ops.specs.Laws.{CombiningLaws}
use Rattle.prefix_trie_ops.proofs.Merging.{get_union}
use Rattle.prefix_trie_ops.proofs.Pairs.{get_common}

pub retained_at : {X : Type 0} (m : Entries X) (p : List Bool → Bool) (s : List Bool) → get (retain_keys m p) s ≡ cond (p s) (get m s) None
retained_at m p s = get-retain_keys m p s (λ x e. ap p (sym (listing_same s x e)))

refused_at : {X : Type 0} (m : Entries X) (p : List Bool → Bool) (s : List Bool) → get (retain_keys m (λ t. not (p t))) s ≡ cond (p s) None (get m s)
refused_at m p s = retained_at m (λ t. not (p t)) s ∙ turned (p s)
  where
    turned : (b : Bool) → cond (not b) (get m s) None ≡ cond b None (get m s)
    turned true = refl
    turned false = refl

module _ {T U : Type 0} where
  pub minus_at : (m : Entries T) (n : Entries U) (s : List Bool) → get (minus m n) s ≡ cond (contains_key n s) None (get m s)
  minus_at m n s = refused_at m (contains_key n) s

  pub combining_laws : CombiningLaws T U
  combining_laws = record {
    union_at = get_union;
    common_at = λ m n s. get_common n m s;
    minus_at = minus_at;
    restricted_at = λ m n s. retained_at m (contains_key n) s;
    not_covered_at = λ m n s. refused_at m (λ t. is_some (shortest_match n t)) s;
  }
