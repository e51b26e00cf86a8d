-- Inserting through a vacant entry fills the entry, or is refused.
use Rattle.prefix_trie_map.proofs.Prelude.{refl, sym, ap, ◌∙◌, subst, contains_key, IsSearchEnd}
use Rattle.prefix_trie_map.proofs.Entries.{Fills-returned, Refuses-returned}
use Rattle.prefix_trie_map.proofs.map.entry.VacantEntry.put.Goals as goal

pub insert_located-requires-clause-fits : goal.insert_located-requires-clause-fits
insert_located-requires-clause-fits g c = c.prefix.ensures.fits

pub insert_located-requires-clause-absent : goal.insert_located-requires-clause-absent
insert_located-requires-clause-absent g c = let e = c.args.self in ap (λ k. contains_key e.map.now.entries (g.P.Prefix.path k)) c.prefix.ensures.value ∙ e.absent

pub insert_located-requires-clause-end : goal.insert_located-requires-clause-end
insert_located-requires-clause-end g c = let e = c.args.self in subst (λ k. IsSearchEnd e.map.now.build (g.P.Prefix.path k) e.end) (sym c.prefix.ensures.value) e.ends

pub returns-in-Ok : goal.returns-in-Ok
returns-in-Ok g c =
    let placed = c.in-Ok.ensures in
    record {
      same_map = refl;
      set = (refl, Fills-returned c.args.self c.insert_located.new.self c.prefix.result.now c.args.value c.prefix.ensures.value placed.entries placed.nodes placed.step);
      refused = tt;
    }

pub returns : goal.returns
returns g c =
    let e = c.in-Err.ensures in
    record {
      same_map = refl;
      set = tt;
      refused = (e.unchanged.0, Refuses-returned c.args.self c.insert_located.new.self c.prefix.result.now _ c.prefix.ensures.value e.unchanged.1 e.unchanged.2 e.refuses);
    }
