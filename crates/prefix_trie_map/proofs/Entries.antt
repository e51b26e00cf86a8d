-- What the map is after an entry is filled: for `put`, `or_insert` and the other calls of entries.
use denote.Param.Members.{Once}
use Rattle.prefix_trie_map.proofs.Prelude.{◌≡◌, Bool, cond, List, None, Some, MutBor, inl, refl, sym, ap, ◌∙◌, true≢false, subst, arith, get, Refusal, IndexRange, with_entry, with_needed, Insert, Value, StepByPath, Contents, with_value_at, is_none-None, stored_state, IsWhole, VacantEntry, OccupiedEntry, Vacant, Occupied, Fills, RefusesToFill, ModifiesEntry}
use Rattle.std.specs.declared.cmp.PartialEq as partial
use Rattle.std.specs.declared.fmt.Debug as debug
use Rattle.prefix_trie_bits.specs.declared.prefix.Prefix as prefix
use Rattle.prefix_trie_bits.specs.declared.prefix.Key as key
use Rattle.prefix_trie_bits.specs.Model.Step.{Refused}
use Rattle.prefix_trie_map.proofs.Insertions.{with_needed-stored}
use Rattle.prefix_trie_map.proofs.NewKeys.{value_not_refused, entry_twice, written_step}

module _ {P T A R : Type 0} {p : prefix.Ghosts P R} {shows : debug.Ghosts P} {k : key.Ghosts R} {same : partial.Ghosts R} {writes : debug.Ghosts R} where
  module _ (e : VacantEntry P T A R p shows k same writes) (new : Contents T) where
    -- the map after a new key was inserted, with the value that was written there last
    pub Fills-placed : (v w : T) → new.entries ≡ with_entry e.map.now.entries (p.path e.key) v → new.nodes ≡ with_needed e.map.now.nodes (p.path e.key)
        → StepByPath k.bit_width (stored_state e.map.now) (Insert (p.path e.key) v) (Value None) (stored_state new)
        → Fills (Vacant e) (with_value_at new (p.path e.key) w) w
    Fills-placed v w entries nodes step = record {
      entries = ap (λ m. with_entry m (p.path e.key) w) entries ∙ entry_twice e.map.now.entries (p.path e.key) v w;
      nodes = nodes;
      step = subst (λ x. StepByPath k.bit_width (stored_state e.map.now) (Insert (p.path e.key) w) (Value x) (stored_state (with_value_at new (p.path e.key) w)))
          (sym (is_none-None (get e.map.now.entries (p.path e.key)) e.absent))
          (written_step k.bit_width e.map.now new (p.path e.key) v None w step);
    }

    -- the same if key and path were passed on to the call that lends
    pub Fills-lent : (key : P) (q : List Bool) (v w : T) → key ≡ e.key → q ≡ p.path e.key
        → new.entries ≡ with_entry e.map.now.entries (p.path key) v → new.nodes ≡ with_needed e.map.now.nodes (p.path key)
        → StepByPath k.bit_width (stored_state e.map.now) (Insert (p.path key) v) (Value None) (stored_state new)
        → Fills (Vacant e) (with_value_at new q w) w
    Fills-lent key q v w is at entries nodes step =
        subst (λ s. Fills (Vacant e) (with_value_at new s w) w) (sym at)
        (Fills-placed v w
        (subst (λ y. new.entries ≡ with_entry e.map.now.entries (p.path y) v) is entries)
        (subst (λ y. new.nodes ≡ with_needed e.map.now.nodes (p.path y)) is nodes)
        (subst (λ y. StepByPath k.bit_width (stored_state e.map.now) (Insert (p.path y) v) (Value None) (stored_state new)) is step))

    -- the same with the value that was inserted
    pub Fills-returned : (key : P) (v : T) → key ≡ e.key → new.entries ≡ with_entry e.map.now.entries (p.path key) v → new.nodes ≡ with_needed e.map.now.nodes (p.path key)
        → StepByPath k.bit_width (stored_state e.map.now) (Insert (p.path key) v) (Value None) (stored_state new) → Fills (Vacant e) new v
    Fills-returned key v is entries nodes step = record {
      entries = subst (λ y. new.entries ≡ with_entry e.map.now.entries (p.path y) v) is entries;
      nodes = subst (λ y. new.nodes ≡ with_needed e.map.now.nodes (p.path y)) is nodes;
      step = subst (λ x. StepByPath k.bit_width (stored_state e.map.now) (Insert (p.path e.key) v) (Value x) (stored_state new)) (sym (is_none-None (get e.map.now.entries (p.path e.key)) e.absent))
          (subst (λ y. StepByPath k.bit_width (stored_state e.map.now) (Insert (p.path y) v) (Value None) (stored_state new)) is step);
    }

    -- the map after the insertion was refused
    pub Refuses-returned : (key : P) (cause : Refusal) → key ≡ e.key → new.entries ≡ e.map.now.entries → new.nodes ≡ e.map.now.nodes
        → ((v : T) → StepByPath k.bit_width (stored_state e.map.now) (Insert (p.path key) v) (Refused cause) (stored_state new))
        → RefusesToFill (Vacant e) cause new
    Refuses-returned key cause is entries nodes step = record {
      entries = entries;
      nodes = nodes;
      step = λ v. subst (λ y. StepByPath k.bit_width (stored_state e.map.now) (Insert (p.path y) v) (Refused cause) (stored_state new)) is (step v);
    }

  -- a stored key has the value that was written there last
  pub Fills-stored : (o : OccupiedEntry P T A R p shows k same writes) → IsWhole k.bit_width o.map.now → (w : T)
      → Fills (Occupied o) (with_value_at o.map.now (p.path o.key) w) w
  Fills-stored o whole w =
      let m = o.map.now in
      let q = p.path o.key in
      record {
        entries = refl;
        nodes = sym (with_needed-stored k.bit_width m.entries m.nodes q whole.is_map.are_nodes o.stored);
        step = record {
          step = inl (refl, ap (λ b. record { entries = with_entry m.entries q w; nodes = cond b m.nodes (with_needed m.nodes q) }) (sym o.stored));
          space = record {
            same_limit = refl;
            nodes_within = whole.nodes_within;
            cells_within = whole.cells_within;
            nodes_grow = omega arith;
            cells_grow = omega arith;
          };
          index_range = λ e. absurd (value_not_refused {T = T} (get m.entries q) IndexRange e);
          storage = (
            λ there. refl,
            λ was fresh e. absurd (true≢false (sym o.stored ∙ fresh)),
            λ cause e. absurd (value_not_refused {T = T} (get m.entries q) cause e),
          );
        };
      }

  -- a stored key has the value that the closure left there
  pub modified : {F : Type 0} (g : Once F (MutBor T × Unit {0}) (Unit {0} × (MutBor T × Unit {0}))) (f : F) (o : OccupiedEntry P T A R p shows k same writes) (new : Contents T) (w : T) (lent : MutBor T)
      → get o.map.now.entries (p.path o.key) ≡ Some lent.now → new ≡ with_value_at o.map.now (p.path o.key) w
      → g.post f (lent, tt) (tt, (record lent { now = w }, tt)) → ModifiesEntry g f (Occupied o) new
  modified g f o new w lent value is called = (lent.now, w, value, record { lent = lent; left = record lent { now = w }; before = refl; called = called; after = refl }, is)
