-- An occupied entry after a value is written at its key: for `get_mut` of entries.
use Rattle.prefix_trie_map.proofs.Prelude.{◌≡◌, Bool, true, List, Some, sym, subst, Coded-set, coded_bool, contains_key, with_entry, seat_of, is_seat-prop, with_value_at, OccupiedEntry, stays_stored, with_value_in}
use Rattle.std.specs.declared.cmp.PartialEq as partial
use Rattle.std.specs.declared.fmt.Debug as debug
use Rattle.prefix_trie_bits.specs.declared.prefix.Prefix as prefix
use Rattle.prefix_trie_bits.specs.declared.prefix.Key as key

module _ {P T A R : Type 0} {p : prefix.Ghosts P R} {shows : debug.Ghosts P} {k : key.Ghosts R} {same : partial.Ghosts R} {writes : debug.Ghosts R}
    (o : OccupiedEntry P T A R p shows k same writes) where
  -- the key is still stored
  pub stays_at : (q : List Bool) (w : T) → q ≡ p.path o.key → contains_key (with_entry o.map.now.entries q w) (p.path o.key) ≡ true
  stays_at q w at = subst (λ s. contains_key (with_entry o.map.now.entries s w) (p.path o.key) ≡ true) (sym at) (stays_stored o w)

  same_facts : (w : T) (s : contains_key (with_entry o.map.now.entries (p.path o.key) w) (p.path o.key) ≡ true)
      (f : seat_of o.map.now.build (p.path o.key) ≡ Some o.seat)
      → record o { map = record o.map { now = with_value_at o.map.now (p.path o.key) w }; stored = s; seated = f } ≡ with_value_in o w
  same_facts w s f = λ i. record o {
    map = record o.map { now = with_value_at o.map.now (p.path o.key) w };
    stored = Coded-set coded_bool _ _ s (stays_stored o w) i;
    seated = is_seat-prop o.map.now.build (p.path o.key) o.seat f o.seated i;
  }

  -- everything else of the entry is unchanged
  pub occupied_written : (w : T) (q : List Bool) → q ≡ p.path o.key
      → (s : contains_key (with_entry o.map.now.entries q w) (p.path o.key) ≡ true) (f : seat_of o.map.now.build (p.path o.key) ≡ Some o.seat)
      → record o { map = record o.map { now = with_value_at o.map.now q w }; stored = s; seated = f } ≡ with_value_in o w
  occupied_written w q at s f =
      subst (λ (n : List Bool). (s : contains_key (with_entry o.map.now.entries n w) (p.path o.key) ≡ true)
      → record o { map = record o.map { now = with_value_at o.map.now n w }; stored = s; seated = f } ≡ with_value_in o w)
      (sym at) (λ s. same_facts w s f) s
