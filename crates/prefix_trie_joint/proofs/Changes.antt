-- How changes of one family change the joined entries.
use Rattle.std.proofs.Common.{◌≡◌, Bool, true, false, not, cond, List, [], ◌∷◌, Option, Some, None, refl, sym, ap, ap₂, ◌∙◌}
use Rattle.std.specs.Ordering.{eq_by_cmp}
use Rattle.std.specs.FinMap.{get, get-empty, get-insert, get-remove, get-retain_keys, retain_keys, same_map}
use Rattle.prefix_trie.specs.Terms.{Entries, listing_cmp, no_entries, with_entry, part_below, without_below, without_entry}
use Rattle.prefix_trie_table.specs.Copies.{AreCloned}
use Rattle.prefix_trie_bits.specs.Order.{listing_same, listing_total}
use Rattle.prefix_trie_joint.specs.Joined.{joined}
use Rattle.prefix_trie_joint.proofs.Families.{begins_ipv4, begins_ipv6, begins_apart, begins_apart_too}
use Rattle.prefix_trie_joint.proofs.Joined.{get_ipv4, get_ipv6, get_neither, same}

module _ {T : Type 0} where
  pub with_ipv4 : (a b c : Entries T) (s : List Bool) (v : T) → c ≡ with_entry a s v → joined c b ≡ with_entry (joined a b) (false ∷ s) v
  with_ipv4 a b c s v is = rw is (same _ _
      (get_neither _ b ∙ sym (get-insert listing_total (joined a b) (false ∷ s) v [] ∙ get_neither a b))
      (λ t. get_ipv4 _ b t ∙ get-insert listing_total a s v t ∙ sym (get-insert listing_total (joined a b) (false ∷ s) v (false ∷ t) ∙ ap (cond (eq_by_cmp listing_cmp t s) (Some v)) (get_ipv4 a b t)))
      (λ t. get_ipv6 _ b t ∙ sym (get-insert listing_total (joined a b) (false ∷ s) v (true ∷ t) ∙ get_ipv6 a b t)))

  pub with_ipv6 : (a b c : Entries T) (s : List Bool) (v : T) → c ≡ with_entry b s v → joined a c ≡ with_entry (joined a b) (true ∷ s) v
  with_ipv6 a b c s v is = rw is (same _ _
      (get_neither a _ ∙ sym (get-insert listing_total (joined a b) (true ∷ s) v [] ∙ get_neither a b))
      (λ t. get_ipv4 a _ t ∙ sym (get-insert listing_total (joined a b) (true ∷ s) v (false ∷ t) ∙ get_ipv4 a b t))
      (λ t. get_ipv6 a _ t ∙ get-insert listing_total b s v t ∙ sym (get-insert listing_total (joined a b) (true ∷ s) v (true ∷ t) ∙ ap (cond (eq_by_cmp listing_cmp t s) (Some v)) (get_ipv6 a b t))))

  pub without_ipv4 : (a b c : Entries T) (s : List Bool) → c ≡ without_entry a s → joined c b ≡ without_entry (joined a b) (false ∷ s)
  without_ipv4 a b c s is = rw is (same _ _
      (get_neither _ b ∙ sym (get-remove listing_total (joined a b) (false ∷ s) [] ∙ get_neither a b))
      (λ t. get_ipv4 _ b t ∙ get-remove listing_total a s t ∙ sym (get-remove listing_total (joined a b) (false ∷ s) (false ∷ t) ∙ ap (cond (eq_by_cmp listing_cmp t s) None) (get_ipv4 a b t)))
      (λ t. get_ipv6 _ b t ∙ sym (get-remove listing_total (joined a b) (false ∷ s) (true ∷ t) ∙ get_ipv6 a b t)))

  pub without_ipv6 : (a b c : Entries T) (s : List Bool) → c ≡ without_entry b s → joined a c ≡ without_entry (joined a b) (true ∷ s)
  without_ipv6 a b c s is = rw is (same _ _
      (get_neither a _ ∙ sym (get-remove listing_total (joined a b) (true ∷ s) [] ∙ get_neither a b))
      (λ t. get_ipv4 a _ t ∙ sym (get-remove listing_total (joined a b) (true ∷ s) (false ∷ t) ∙ get_ipv4 a b t))
      (λ t. get_ipv6 a _ t ∙ get-remove listing_total b s t ∙ sym (get-remove listing_total (joined a b) (true ∷ s) (true ∷ t) ∙ ap (cond (eq_by_cmp listing_cmp t s) None) (get_ipv6 a b t))))

  pub get_kept : (m : Entries T) (p : List Bool → Bool) (q : List Bool) → get (retain_keys m p) q ≡ cond (p q) (get m q) None
  get_kept m p q = get-retain_keys m p q (λ x tie. ap p (sym (listing_same q x tie)))

  none_kept : (b : Bool) (o : Option T) → o ≡ None → cond b o None ≡ None
  none_kept true o e = e
  none_kept false o e = refl

  -- the keys that pass a test, which is a test of each family
  pub kept_by : (a b : Entries T) (p q r : List Bool → Bool) → ((s : List Bool) → p (false ∷ s) ≡ q s) → ((s : List Bool) → p (true ∷ s) ≡ r s)
      → joined (retain_keys a q) (retain_keys b r) ≡ retain_keys (joined a b) p
  kept_by a b p q r f g = same _ _
      (get_neither _ _ ∙ sym (get_kept (joined a b) p [] ∙ none_kept (p []) _ (get_neither a b)))
      (λ t. get_ipv4 _ _ t ∙ get_kept a q t ∙ sym (get_kept (joined a b) p (false ∷ t) ∙ ap₂ (λ x o. cond x o None) (f t) (get_ipv4 a b t)))
      (λ t. get_ipv6 _ _ t ∙ get_kept b r t ∙ sym (get_kept (joined a b) p (true ∷ t) ∙ ap₂ (λ x o. cond x o None) (g t) (get_ipv6 a b t)))

  all_kept : (m : Entries T) → m ≡ retain_keys m (λ _. true)
  all_kept m = same_map listing_total listing_same m (retain_keys m (λ _. true)) (λ t. sym (get_kept m (λ _. true) t))

  all_dropped : (m n : Entries T) → n ≡ no_entries → n ≡ retain_keys m (λ _. false)
  all_dropped m n none = none ∙ same_map listing_total listing_same no_entries (retain_keys m (λ _. false)) (λ t. get-empty listing_cmp t ∙ sym (get_kept m (λ _. false) t))

  pub below_kept_ipv4 : (a b c : Entries T) (q : List Bool) → c ≡ without_below a q → joined c b ≡ without_below (joined a b) (false ∷ q)
  below_kept_ipv4 a b c q is = ap₂ joined is (all_kept b) ∙ kept_by a b _ _ _ (λ t. ap not (begins_ipv4 q t)) (λ t. ap not (begins_apart q t))

  pub below_kept_ipv6 : (a b c : Entries T) (q : List Bool) → c ≡ without_below b q → joined a c ≡ without_below (joined a b) (true ∷ q)
  below_kept_ipv6 a b c q is = ap₂ joined (all_kept a) is ∙ kept_by a b _ _ _ (λ t. ap not (begins_apart_too q t)) (λ t. ap not (begins_ipv6 q t))

  pub none_joined : (a b : Entries T) → a ≡ no_entries → b ≡ no_entries → joined a b ≡ no_entries
  none_joined a b e f = same _ _
      (get_neither a b ∙ sym (get-empty listing_cmp []))
      (λ t. get_ipv4 a b t ∙ ap (λ m. get m t) e ∙ get-empty listing_cmp t ∙ sym (get-empty listing_cmp (false ∷ t)))
      (λ t. get_ipv6 a b t ∙ ap (λ m. get m t) f ∙ get-empty listing_cmp t ∙ sym (get-empty listing_cmp (true ∷ t)))

  pub none_ipv4 : (a b : Entries T) → joined a b ≡ no_entries → a ≡ no_entries
  none_ipv4 a b e = same_map listing_total listing_same a no_entries (λ t. sym (get_ipv4 a b t) ∙ ap (λ m. get m (false ∷ t)) e ∙ get-empty listing_cmp (false ∷ t) ∙ sym (get-empty listing_cmp t))

  pub none_ipv6 : (a b : Entries T) → joined a b ≡ no_entries → b ≡ no_entries
  none_ipv6 a b e = same_map listing_total listing_same b no_entries (λ t. sym (get_ipv6 a b t) ∙ ap (λ m. get m (true ∷ t)) e ∙ get-empty listing_cmp (true ∷ t) ∙ sym (get-empty listing_cmp t))

  pub same_joined : (a b c d : Entries T) → a ≡ c → b ≡ d → joined a b ≡ joined c d
  same_joined a b c d e f = ap₂ joined e f

  -- joined entries determine those of each family
  pub ipv4_of : (a b c d : Entries T) → joined a b ≡ joined c d → a ≡ c
  ipv4_of a b c d e = same_map listing_total listing_same a c (λ t. sym (get_ipv4 a b t) ∙ ap (λ m. get m (false ∷ t)) e ∙ get_ipv4 c d t)

  pub ipv6_of : (a b c d : Entries T) → joined a b ≡ joined c d → b ≡ d
  ipv6_of a b c d e = same_map listing_total listing_same b d (λ t. sym (get_ipv6 a b t) ∙ ap (λ m. get m (true ∷ t)) e ∙ get_ipv6 c d t)

  -- the part of one family that is split off, with no entry of the other family
  pub part_ipv4 : (a b c d : Entries T) (q : List Bool) → c ≡ part_below a q → d ≡ no_entries → joined c d ≡ part_below (joined a b) (false ∷ q)
  part_ipv4 a b c d q is none = ap₂ joined is (all_dropped b d none) ∙ kept_by a b _ _ _ (begins_ipv4 q) (begins_apart q)

  pub part_ipv6 : (a b c d : Entries T) (q : List Bool) → c ≡ no_entries → d ≡ part_below b q → joined c d ≡ part_below (joined a b) (true ∷ q)
  part_ipv6 a b c d q none is = ap₂ joined (all_dropped a c none) is ∙ kept_by a b _ _ _ (begins_apart_too q) (begins_ipv6 q)

  -- the values of a copy are clones if those of each family are
  pub cloned_joined : (is_clone : T → T → Type 0) (a b c d : Entries T) → AreCloned is_clone a c → AreCloned is_clone b d → AreCloned is_clone (joined a b) (joined c d)
  cloned_joined is_clone a b c d h k = each
    where
      each : AreCloned is_clone (joined a b) (joined c d)
      each [] = rw (get_neither a b, get_neither c d) refl
      each (false ∷ s) = rw (get_ipv4 a b s, get_ipv4 c d s) (h s)
      each (true ∷ s) = rw (get_ipv6 a b s, get_ipv6 c d s) (k s)
