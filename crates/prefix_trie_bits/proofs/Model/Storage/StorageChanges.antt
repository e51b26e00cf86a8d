-- A step of the model that describes the storage fixes what may change in it: for `storage_laws`.
use Rattle.prefix_trie_bits.proofs.Prelude.{◌≡◌, ℕ, Bool, true, false, List, [], ◌∷◌, length, Option, refl, sym, ap, ◌∙◌, subst, true≢false, contains_key, Sizes, Space, TakesBlocks, is_root, State, Call, Insert, Remove, RemoveKeepTree, RemoveChildren, RetainAtLeast, Clear, Reply, Refused, Refusal, Storage, InsertsInStorage, StepInStorage, is_refusal, asks_length, may_change, UseAlike, LeavesFixed, StorageLaws}
use Rattle.prefix_trie_bits.proofs.Model.Determined.{no_refusal, set}
use Rattle.prefix_trie_bits.proofs.Model.Members.{same_entries}
use Rattle.prefix_trie_bits.proofs.Model.Storage.PreparedInsertions.{prepared_not_refused, prepared_inserts}
use Rattle.prefix_trie_bits.proofs.Model.LengthTests.{at_least_step}

none-long : (s : List Bool) → is_root s ≡ true → length s ≡ 0
none-long [] e = refl
none-long (b ∷ s) e = absurd (true≢false (sym e))

same_space : (a b : Space) → a.limit ≡ b.limit → a.node_slots ≡ b.node_slots → a.cell_slots ≡ b.cell_slots → a ≡ b
same_space a b l n c = λ i. record { limit = l i; node_slots = n i; cell_slots = c i }

same_sizes : (needed : List Bool → Option ℕ) (before after other : Sizes) → TakesBlocks needed before after → TakesBlocks needed before other → after ≡ other
same_sizes needed before after other a b = same_entries after other (λ p. a p ∙ sym (b p))

alike : (a b : Storage) → a ≡ b → UseAlike a b
alike a b e = record { space = ap (λ x. x.space) e; child_blocks = ap (λ x. x.layout.child_blocks) e; value_blocks = ap (λ x. x.layout.value_blocks) e }

module _ {T : Type 0} where
  -- if state and storage are both as they were, so is the pair
  unchanged_pair : (s t : State T × Storage) → t.0 ≡ s.0 → t.1 ≡ s.1 → t ≡ s
  unchanged_pair s t e f = λ i. (e i, f i)

  inserted_alike : (s : State T) (q : List Bool) (before after other : Storage) → after.space.limit ≡ before.space.limit → other.space.limit ≡ before.space.limit
      → InsertsInStorage s q before after → InsertsInStorage s q before other → UseAlike after other
  inserted_alike s q before after other l k a b = record {
    space = same_space after.space other.space (l ∙ sym k) (a.node_slots ∙ sym b.node_slots) (a.cell_slots ∙ sym b.cell_slots);
    child_blocks = same_sizes _ before.layout.child_blocks after.layout.child_blocks other.layout.child_blocks a.child_blocks b.child_blocks;
    value_blocks = same_sizes _ before.layout.value_blocks after.layout.value_blocks other.layout.value_blocks a.value_blocks b.value_blocks;
  }

module _ {P T : Type 0} (path : P → List Bool) (back : List Bool → P) (width : ℕ) where
  abbrev Stored : State T × Storage → Call P T → Reply P T → State T × Storage → Type 0
  Stored = StepInStorage path back width

  pub unchanged : (s : State T × Storage) (call : Call P T) (reply : Reply P T) (t : State T × Storage) → may_change call ≡ false → Stored s call reply t → t ≡ s
  unchanged s (Insert q v) reply t e h = absurd (true≢false e)
  unchanged s (Remove q) reply t e h = absurd (true≢false e)
  unchanged s (RemoveKeepTree q) reply t e h = absurd (true≢false e)
  unchanged s (RemoveChildren q) reply t e h = absurd (true≢false e)
  unchanged s (RetainAtLeast n) reply t e h = absurd (true≢false e)
  unchanged s Clear reply t e h = absurd (true≢false e)
  unchanged s call reply t e h = unchanged_pair s t h.step.1 h.storage

  abbrev BlocksStay : State T × Storage → State T × Storage → Type 0
  BlocksStay s t = (t.1.layout.child_blocks ≡ s.1.layout.child_blocks) × (t.1.layout.value_blocks ≡ s.1.layout.value_blocks)

  stay : (s t : State T × Storage) → t.1 ≡ s.1 → BlocksStay s t
  stay s t e = (ap (λ x. x.layout.child_blocks) e, ap (λ x. x.layout.value_blocks) e)

  refused : (s : State T × Storage) (call : Call P T) (cause : Refusal) (t : State T × Storage) → Stored s call (Refused cause) t → BlocksStay s t
  refused s (Insert q v) cause t h = let left = h.storage.2 cause refl in (left.child_blocks, left.value_blocks)
  refused s (Remove q) cause t h = no_refusal (Refused cause) _ refl refl h.step.0
  refused s (RemoveKeepTree q) cause t h = no_refusal (Refused cause) _ refl refl h.step.0
  refused s (RemoveChildren q) cause t h = no_refusal (Refused cause) _ refl refl h.step.0
  refused s (RetainAtLeast n) cause t h = no_refusal (Refused cause) _ refl refl h.step.0
  refused s Clear cause t h = no_refusal (Refused cause) _ refl refl h.step.0
  refused s call cause t h = stay s t h.storage

  fixed : (s : State T × Storage) (call : Call P T) (reply : Reply P T) (t : State T × Storage) → Stored s call reply t → LeavesFixed path back width s call reply t
  fixed s call reply t h = record {
    unchanged = λ e. unchanged s call reply t e h;
    set_again = λ q v is stored. (subst (λ c. Stored s c reply t) is h).storage.0 stored;
    cleared_all = λ is. (subst (λ c. Stored s c reply t) is h).storage;
    removed_all = λ q is e. (subst (λ c. Stored s c reply t) is h).storage.0 (none-long (path q) e);
    refused = λ cause is. refused s call cause t (subst (λ r. Stored s call r t) is h);
  }

  inserted : (s : State T × Storage) (q : P) (v : T) (reply other : Reply P T) (t u : State T × Storage) → is_refusal reply ≡ false → is_refusal other ≡ false
      → Stored s (Insert q v) reply t → Stored s (Insert q v) other u → UseAlike t.1 u.1
  inserted s q v reply other t u answers too a b =
      elim (contains_key s.0.entries (path q)) as (λ x. contains_key s.0.entries (path q) ≡ x → UseAlike t.1 u.1) [
        | true ↦ λ stored. alike t.1 u.1 (a.storage.0 stored ∙ sym (b.storage.0 stored))
        | false ↦ λ new. inserted_alike s.0 (path q) s.1 t.1 u.1 a.space.same_limit b.space.same_limit
            (a.storage.1 _ new (set path back width s.0 q v reply t.0 answers a.step).0) (b.storage.1 _ new (set path back width s.0 q v other u.0 too b.step).0)
      ] refl

pub storage_laws : (P T : Type 0) → StorageLaws P T
storage_laws P T = record {
  retained = λ path back width n s t map h.
      at_least_step path back width (asks_length n) tt n (λ k. length k) s t map.keys_within (λ k short. refl) (λ e b f is. (is, refl)) h;
  fixed = fixed;
  inserted = inserted;
  granted = λ s q before mid after cause made. prepared_not_refused s q before mid made cause after;
  prepared = λ s q before mid after made. prepared_inserts s q before mid made after;
}
