-- What `and_modify(..).or_insert(..)` leaves of a map, for its callers.
use Rattle.prefix_trie.proofs.Prelude.{◌≡◌, Bool, cond, List, None, Some, refl, sym, ap, ◌∙◌, MutBor, get, option_map, Entries, with_entry, get-with_entry, is-same_string, Contents, is_none-None, Entry, Occupied, Vacant, ModifiesEntry, entry_key, entry_map, entry_path, entry_value, entry_twice}
use Rattle.std.specs.Option.{unwrap_or}
use denote.Param.Members.{Once}
use Rattle.std.specs.declared.cmp.PartialEq as partial
use Rattle.std.specs.declared.fmt.Debug as debug
use Rattle.prefix_trie_bits.specs.declared.prefix.Prefix as prefix
use Rattle.prefix_trie_bits.specs.declared.prefix.Key as key

module _ {P T A R : Type 0} {p : prefix.Ghosts P R} {shows : debug.Ghosts P} {k : key.Ghosts R} {same : partial.Ghosts R} {writes : debug.Ghosts R} where
  module _ {F : Type 0} (h : Once F (MutBor T × Unit {0}) (Unit {0} × (MutBor T × Unit {0}))) (test : F) (f : T → T) (does : (x y : MutBor T) → h.post test (x, tt) (tt, (y, tt)) → y.now ≡ f x.now) where
    -- the value there after f changed it, and set there once more
    changed : (e : Entry P T A R p shows k same writes) (new : Contents T) (v : T) → ModifiesEntry h test e new →
        with_entry new.entries (entry_path e) (unwrap_or (get new.entries (entry_path e)) v) ≡ with_entry (entry_map e).entries (entry_path e) (unwrap_or (option_map f (entry_value e)) v)
    changed (Vacant e) new v update =
        let none : get e.map.now.entries (p.path e.key) ≡ None = is_none-None _ e.absent in
        ap (λ (m : Contents T). with_entry m.entries (p.path e.key) (unwrap_or (get m.entries (p.path e.key)) v)) update
        ∙ ap (λ o. with_entry e.map.now.entries (p.path e.key) (unwrap_or o v)) none
        ∙ ap (λ o. with_entry e.map.now.entries (p.path e.key) (unwrap_or (option_map f o) v)) (sym none)
    changed (Occupied o) new v (x, w, stored, left, is) =
        let q = p.path o.key in
        let m = o.map.now.entries in
        let there : get (with_entry m q w) q ≡ Some w = get-with_entry m q w q ∙ ap (λ b. cond b (Some w) (get m q)) (is-same_string q q refl) in
        ap (λ (n : Contents T). with_entry n.entries q (unwrap_or (get n.entries q) v)) is
        ∙ ap (λ o. with_entry (with_entry m q w) q (unwrap_or o v)) there
        ∙ entry_twice m q w w
        ∙ ap (with_entry m q) (sym left.after ∙ does left.lent left.left left.called ∙ ap f left.before)
        ∙ ap (λ o. with_entry m q (unwrap_or (option_map f o) v)) (sym stored)

    -- what `and_modify(..).or_insert(v)` leaves of a map, whether or not the key was stored: e is the entry, d the
    -- result of `and_modify`
    pub modified_or_put : (e d : Entry P T A R p shows k same writes) (old : Contents T) (q : List Bool) (v w : T) (new : Entries T) → entry_map e ≡ old → entry_path e ≡ q →
        ModifiesEntry h test e (entry_map d) → entry_key d ≡ entry_key e → w ≡ unwrap_or (entry_value d) v → new ≡ with_entry (entry_map d).entries (entry_path d) w →
        new ≡ with_entry old.entries q (unwrap_or (option_map f (get old.entries q)) v)
    modified_or_put e d old q v w new map path update key value put =
        put
        ∙ ap (with_entry (entry_map d).entries (entry_path d)) value
        ∙ ap (λ r. with_entry (entry_map d).entries r (unwrap_or (get (entry_map d).entries r) v)) (ap p.path key)
        ∙ changed e (entry_map d) v update
        ∙ (λ i. with_entry (map i).entries (path i) (unwrap_or (option_map f (get (map i).entries (path i))) v))
