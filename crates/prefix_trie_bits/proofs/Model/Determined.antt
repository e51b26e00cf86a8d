-- A call that is not refused has one possible reply and one possible new state: for the laws of steps and of storage.
use Rattle.prefix_trie_bits.proofs.Prelude.{◌≡◌, ◌↔◌, ℕ, Bool, true, false, not, cond, List, refl, sym, ap, ◌∙◌, inl, inr, true≢false, get, contains_key, with_entry, with_needed, State, Call, Insert, ListAll, ListFrom, Children, Cover, Reply, Value, Items, Refused, Refusal, Memory, IndexRange, Lists, Step, is_memory, is_refusal, may_refuse, DeterminedLaws}
use Rattle.prefix_trie_bits.proofs.Model.Members.{from-not, not-true}

memory-is : (cause : Refusal) → is_memory cause ≡ true → cause ≡ Memory
memory-is Memory e = refl
memory-is IndexRange e = absurd (true≢false (sym e))

module _ {P T : Type 0} where
  abbrev pub cause_of : Reply P T → Refusal
  cause_of (Refused cause) = cause
  cause_of reply = Memory

  -- a reply that is a refusal differs from each reply that is not
  pub no_refusal : {A : Type 0} (reply other : Reply P T) → is_refusal reply ≡ true → is_refusal other ≡ false → reply ≡ other → A
  no_refusal reply other e f g = absurd (true≢false (sym e ∙ ap is_refusal g ∙ f))

  -- two replies that equal a third are equal, and so are the states
  both : (reply other is : Reply P T) (t u to : State T) → (reply ≡ is) × (t ≡ to) → (other ≡ is) × (u ≡ to) → (reply ≡ other) × (t ≡ u)
  both reply other is t u to (r, e) (o, f) = (r ∙ sym o, e ∙ sym f)

  -- a listing that is not refused gives all its items and changes nothing
  given : (s : State T) (items : List (P × T)) (reply : Reply P T) (t : State T) → is_refusal reply ≡ false → Lists s items reply t → (reply ≡ Items items) × (t ≡ s)
  given s items reply t answers (inl r, e) = (r, e)
  given s items reply t answers (inr r, e) = no_refusal (Refused Memory) reply refl answers (sym r)

  lists : (s : State T) (items : List (P × T)) (reply other : Reply P T) (t u : State T) → is_refusal reply ≡ false → is_refusal other ≡ false → Lists s items reply t → Lists s items other u → (reply ≡ other) × (t ≡ u)
  lists s items reply other t u answers too a b = both reply other (Items items) t u s (given s items reply t answers a) (given s items other u too b)

  refused_list : (s : State T) (items : List (P × T)) (cause : Refusal) (t : State T) → Lists s items (Refused cause) t ↔ ((is_memory cause ≡ true) × (t ≡ s))
  refused_list s items cause t = (refusal s items cause t, λ m. (inr (ap Refused (memory-is cause m.0)), m.1)) where
    refusal : (s : State T) (items : List (P × T)) (cause : Refusal) (t : State T) → Lists s items (Refused cause) t → (is_memory cause ≡ true) × (t ≡ s)
    refusal s items cause t (inl r, e) = no_refusal (Refused cause) (Items items) refl refl r
    refusal s items cause t (inr r, e) = (ap (λ x. is_memory (cause_of x)) r, e)

  -- a call that cannot be refused has one reply and one new state
  never : (s : State T) (cause : Refusal) (is : Reply P T) (t to : State T) → is_refusal is ≡ false → ((Refused cause ≡ is) × (t ≡ to)) ↔ ((false ≡ true) × (t ≡ s))
  never s cause is t to answers = (λ h. no_refusal (Refused cause) is refl answers h.0, λ h. absurd (true≢false (sym h.0)))

module _ {P T : Type 0} (path : P → List Bool) (back : List Bool → P) (width : ℕ) where
  -- the state that a successful insertion leaves
  abbrev pub set_to : State T → P → T → State T
  set_to s q v = record { entries = with_entry s.entries (path q) v; nodes = cond (contains_key s.entries (path q)) s.nodes (with_needed s.nodes (path q)) }

  pub set : (s : State T) (q : P) (v : T) (reply : Reply P T) (t : State T) → is_refusal reply ≡ false → Step path back width s (Insert q v) reply t → (reply ≡ Value (get s.entries (path q))) × (t ≡ set_to s q v)
  set s q v reply t answers (inl h) = h
  set s q v reply t answers (inr (new, cause, r, e)) = no_refusal (Refused cause) reply refl answers (sym r)

  pub same : (s : State T) (call : Call P T) (reply other : Reply P T) (t u : State T) → is_refusal reply ≡ false → is_refusal other ≡ false → Step path back width s call reply t → Step path back width s call other u → (reply ≡ other) × (t ≡ u)
  same s (Insert q v) reply other t u answers too a b = both reply other _ t u _ (set s q v reply t answers a) (set s q v other u too b)
  same s ListAll reply other t u answers too a b = lists s _ reply other t u answers too a b
  same s (ListFrom q inclusive) reply other t u answers too a b = lists s _ reply other t u answers too a b
  same s (Children q) reply other t u answers too a b = lists s _ reply other t u answers too a b
  same s (Cover q) reply other t u answers too a b = lists s _ reply other t u answers too a b
  same s call reply other t u answers too a b = both reply other _ t u _ a b

  refused_set : (s : State T) (q : P) (v : T) (cause : Refusal) (t : State T) → Step path back width s (Insert q v) (Refused cause) t → (not (contains_key s.entries (path q)) ≡ true) × (t ≡ s)
  refused_set s q v cause t (inl (r, e)) = no_refusal (Refused cause) _ refl refl r
  refused_set s q v cause t (inr (new, c, r, e)) = (not-true _ new, e)

  pub refused : (s : State T) (call : Call P T) (cause : Refusal) (t : State T) → Step path back width s call (Refused cause) t ↔ ((may_refuse path s call cause ≡ true) × (t ≡ s))
  refused s (Insert q v) cause t = (refused_set s q v cause t, λ m. inr (from-not _ m.0, cause, refl, m.1))
  refused s ListAll cause t = refused_list s _ cause t
  refused s (ListFrom q inclusive) cause t = refused_list s _ cause t
  refused s (Children q) cause t = refused_list s _ cause t
  refused s (Cover q) cause t = refused_list s _ cause t
  refused s call cause t = never s cause _ t _ refl

  answered : (s : State T) (call : Call P T) → (reply : Reply P T) × (t : State T) × Step path back width s call reply t × (is_refusal reply ≡ false)
  answered s (Insert q v) = (_, _, inl (refl, refl), refl)
  answered s ListAll = (_, _, (inl refl, refl), refl)
  answered s (ListFrom q inclusive) = (_, _, (inl refl, refl), refl)
  answered s (Children q) = (_, _, (inl refl, refl), refl)
  answered s (Cover q) = (_, _, (inl refl, refl), refl)
  answered s call = (_, _, (refl, refl), refl)

pub determined_laws : (P T : Type 0) → DeterminedLaws P T
determined_laws P T = record { same = same; refused = refused; answered = answered }
