-- Filling an entry is an insertion in the family of its network.
use denote.Param.Members.{Once}
use Rattle.std.proofs.Common.{◌≡◌, ℕ, List, Bool, true, cond, Option, Some, is_some, MatchOption, MutBor, Result, OnOk, OnErr, IfErr, Ok, Err, refl, sym, subst, ap, ap₂, ◌∙◌}
use Rattle.std.proofs.lemmas.Option.{same_Some}
use Rattle.std.proofs.lemmas.Result.{on_ok_weaker}
use Rattle.std.specs.FinMap.{contains_key, get}
use Rattle.prefix_trie.specs.Terms.{with_entry}
use Rattle.prefix_trie_bits.specs.Networks.{network_path}
use Rattle.prefix_trie_bits.proofs.Model.Members.{get-with_entry, is-same_string}
use Rattle.prefix_trie_bits.specs.Calls.Storage.{StepByPath}
use Rattle.prefix_trie_bits.specs.Model.Step.{Insert, Value}
use Rattle.prefix_trie_bits.specs.Model.Step as model
use Rattle.prefix_trie_bits.specs.declared.prefix.Refusal.{Refusal}
use Rattle.prefix_trie_map.specs.Entry.{MayLeave}
use Rattle.prefix_trie_map.proofs.NewKeys.{entry_twice, written_step}
use Rattle.prefix_trie_table.specs.Model.Contents.{Contents, stored_state}
use Rattle.prefix_trie_joint.specs.declared.prefix.IpPrefix.{IpPrefix}
use Rattle.prefix_trie_joint.specs.declared.prefix.IpPrefix.TheVariants.{V4, V6}
use Rattle.prefix_trie_joint.specs.declared.map.JointPrefixMap.{JointPrefixMap}
use Rattle.prefix_trie_joint.specs.Changes.{maps_of, OnFamily, StepOnFamily}
use Rattle.prefix_trie_joint.specs.Entry.{Fills, FillsAt, Modifies, RefusesAt, RefusesToFill}
use Rattle.prefix_trie_joint.specs.Joined.{entries_of, joined}
use Rattle.prefix_trie_joint.specs.Lending.{with_value_of}
use Rattle.prefix_trie_joint.specs.Networks.{ip_path}
use Rattle.prefix_trie_joint.proofs.Changes.{with_ipv4, with_ipv6}
use Rattle.prefix_trie_joint.proofs.FamilyLaws.{written}
use Rattle.prefix_trie_joint.proofs.Joined.{get_ipv4, get_ipv6}

-- what an entry says of its map, at the map and path that it was made of
module _ {T : Type 0} (width : ℕ) (m old new : Contents T) (r q : List Bool) (same : m ≡ old) (path : r ≡ q) where
  pub refuses_at : (cause : Refusal) → new.entries ≡ m.entries → ((x : T) → StepByPath width (stored_state m) (Insert r x) (model.Refused cause) (stored_state new)) → RefusesAt width q cause old new
  refuses_at cause entries step = subst (λ x. RefusesAt width q cause x new) same (subst (λ s. RefusesAt width s cause m new) path (record { entries = entries; step = step }))

-- what holds at an error
pub at_err : {X E : Type 0} (r : Result X E) (e : E) (P : E → Type 0) → r ≡ Err e → OnErr r (IfErr r P) → P e
at_err r e P is h = subst (λ r. OnErr r (IfErr r P)) is h

module _ {T A : Type 0} (m n : JointPrefixMap T A) where
  -- what fills the map of one family fills the joint map
  fills : (p : IpPrefix) (v : T) → OnFamily p (λ width q old new. FillsAt width q old new v) (maps_of m) (maps_of n) → Fills p m n v
  fills (V4 network) v h = record {
    entries = ap (λ c. joined n.ipv4.entries c.entries) h.1 ∙ with_ipv4 _ _ _ _ v h.0.entries;
    step = (subst (λ o. StepByPath 32 (stored_state m.ipv4) (Insert (network_path 32 network) v) (Value o) (stored_state n.ipv4)) (sym (get_ipv4 _ _ _)) h.0.step, h.1);
  }
  fills (V6 network) v h = record {
    entries = ap (λ c. joined c.entries n.ipv6.entries) h.1 ∙ with_ipv6 _ _ _ _ v h.0.entries;
    step = (subst (λ o. StepByPath 128 (stored_state m.ipv6) (Insert (network_path 128 network) v) (Value o) (stored_state n.ipv6)) (sym (get_ipv6 _ _ _)) h.0.step, h.1);
  }

  pub filled : {E : Type 0} (Q : Option T → T → Type 0) (p prefix : IpPrefix) → p ≡ prefix → (r : Result (Unit {0}) E)
      → OnFamily p (λ width q old new. OnOk r ((v : T) × Q (get old.entries q) v × FillsAt width q old new v)) (maps_of m) (maps_of n) → OnOk r ((v : T) × Q (get (entries_of m) (ip_path prefix)) v × Fills prefix m n v)
  filled Q p prefix is r h = subst (λ x. OnOk r ((v : T) × Q (get (entries_of m) (ip_path x)) v × Fills x m n v)) is (on p h)
    where
      on : (p : IpPrefix) → OnFamily p (λ width q old new. OnOk r ((v : T) × Q (get old.entries q) v × FillsAt width q old new v)) (maps_of m) (maps_of n) → OnOk r ((v : T) × Q (get (entries_of m) (ip_path p)) v × Fills p m n v)
      on (V4 network) h = on_ok_weaker r (λ f. (f.0, subst (λ o. Q o f.0) (sym (get_ipv4 _ _ _)) f.1, fills (V4 network) f.0 (f.2, h.1))) h.0
      on (V6 network) h = on_ok_weaker r (λ f. (f.0, subst (λ o. Q o f.0) (sym (get_ipv6 _ _ _)) f.1, fills (V6 network) f.0 (f.2, h.1))) h.0

  -- what is refused in the map of one family is refused in the joint map
  refuses : (p : IpPrefix) (cause : Refusal) → OnFamily p (λ width q old new. RefusesAt width q cause old new) (maps_of m) (maps_of n) → RefusesToFill p cause m n
  refuses (V4 network) cause h = record { entries = ap₂ joined h.0.entries (ap (λ c. c.entries) h.1); step = λ x. (h.0.step x, h.1) }
  refuses (V6 network) cause h = record { entries = ap₂ joined (ap (λ c. c.entries) h.1) h.0.entries; step = λ x. (h.0.step x, h.1) }

  pub refused : {E : Type 0} (cause : E → Refusal) (p prefix : IpPrefix) → p ≡ prefix → (r : Result (Unit {0}) E)
      → OnFamily p (λ width q old new. IfErr r (λ e. RefusesAt width q (cause e) old new)) (maps_of m) (maps_of n) → IfErr r (λ e. RefusesToFill prefix (cause e) m n)
  refused cause p prefix is (Ok x) h = tt
  refused cause p prefix is (Err e) h = subst (λ x. RefusesToFill x (cause e) m n) is (refuses p (cause e) h)

module _ {T A : Type 0} (m n : JointPrefixMap T A) (p : IpPrefix) (v : T) (is : Fills p m n v) where
  is_set : get (entries_of n) (ip_path p) ≡ Some v
  is_set =
      let s = ip_path p in
      ap (λ es. get es s) is.entries ∙ get-with_entry (entries_of m) s v s ∙ ap (λ b. cond b (Some v) (get (entries_of m) s)) (is-same_string s s refl)

  -- the network that was filled is stored, with its value
  pub is_there : contains_key (entries_of n) (ip_path p) ≡ true
  is_there = ap is_some is_set

  pub value_set : (x : T) → get (entries_of n) (ip_path p) ≡ Some x → x ≡ v
  value_set x has = same_Some x v (sym has ∙ is_set)

  step_again : (p : IpPrefix) (x : T) (before : Option T) → StepOnFamily p (λ q. Insert q v) (Value before) (maps_of m) (maps_of n) → StepOnFamily p (λ q. Insert q x) (Value before) (maps_of m) (maps_of (with_value_of n p x))
  step_again (V4 network) x before h = (written_step 32 m.ipv4 n.ipv4 (network_path 32 network) v before x h.0, h.1)
  step_again (V6 network) x before h = (written_step 128 m.ipv6 n.ipv6 (network_path 128 network) v before x h.0, h.1)

  -- a value that is written then replaces the one that filled it
  pub refilled : (x : T) → Fills p m (with_value_of n p x) x
  refilled x = record {
    entries = written n p x ∙ ap (λ es. with_entry es (ip_path p) x) is.entries ∙ entry_twice (entries_of m) (ip_path p) v x;
    step = step_again p x (get (entries_of m) (ip_path p)) is.step;
  }

-- the map has what a call leaves of the stored value
pub modified : {F T A : Type 0} (g : Once F (MutBor T × Unit {0}) (Unit {0} × (MutBor T × Unit {0}))) (f : F) (m : JointPrefixMap T A) (p : IpPrefix) (w : T) (lent : MutBor T)
    → Some lent.now ≡ get (entries_of m) (ip_path p) → g.post f (lent, tt) (tt, (record lent { now = w }, tt)) → Modifies g f m p (with_value_of m p w)
modified {F} {T} g f m p w lent has called =
    subst (λ (o : Option T). MatchOption o (with_value_of m p w ≡ m) (λ v. (x : T) × MayLeave g f v x × (with_value_of m p w ≡ with_value_of m p x))) has
    (w, record { lent = lent; left = record lent { now = w }; before = refl; called = called; after = refl }, refl)
