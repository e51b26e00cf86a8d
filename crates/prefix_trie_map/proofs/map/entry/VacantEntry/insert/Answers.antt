-- Inserting through a vacant entry fills the entry, with the value that is written through the borrow last.
use Rattle.prefix_trie_map.proofs.Prelude.{refl, sym, ap, ◌∙◌, subst, false≢true, err_from_is_err_and, get, contains_key, IsSearchEnd, seat_of}
use Rattle.prefix_trie_map.proofs.Entries.{Fills-lent, Refuses-returned}
use Rattle.prefix_trie_map.proofs.NewKeys.{entry_only}
use Rattle.prefix_trie_map.proofs.map.entry.VacantEntry.insert.Goals as goal

pub insert_located-requires-clause-fits : goal.insert_located-requires-clause-fits
insert_located-requires-clause-fits g c = c.prefix.ensures.fits

pub insert_located-requires-clause-absent : goal.insert_located-requires-clause-absent
insert_located-requires-clause-absent g c = let e = c.args.self in ap (λ k. contains_key e.map.now.entries (g.P.Prefix.path k)) c.prefix.ensures.value ∙ e.absent

pub insert_located-requires-clause-end : goal.insert_located-requires-clause-end
insert_located-requires-clause-end g c = let e = c.args.self in subst (λ k. IsSearchEnd e.map.now.build (g.P.Prefix.path k) e.end) (sym c.prefix.ensures.value) e.ends

pub lend_at-requires : goal.lend_at-requires
lend_at-requires g c = ap (seat_of c.insert_located.new.self.build) (c.path-path.ensures.path ∙ sym (ap g.P.Prefix.path c.prefix.ensures.value)) ∙ c.in_ok-seat.ensures.seat

pub returns : goal.returns
returns g c =
    let is = c.prefix.ensures.value in
    let at = c.path-path.ensures.path in
    let placed = c.in_ok-seat.ensures in
    let found = ap (get c.insert_located.new.self.entries) (ap g.P.Prefix.path is ∙ sym at) ∙ c.lend_at.ensures.value in (
      (refl, (λ w _. Fills-lent c.args.self c.insert_located.new.self c.prefix.result.now _ c.args.value w is at placed.entries placed.nodes placed.step), tt),
      record { writes_back = tt; value = entry_only _ _ _ _ _ placed.entries found; returned = tt },
    )

pub returns-in_err-seat : goal.returns-in_err-seat
returns-in_err-seat g c =
    let p = err_from_is_err_and c.from_residual.result c.from_residual.ensures.1 in
    let e = c.in_err-seat.ensures in
    rw (p.1, p.2) (
      (refl, (λ w r. absurd (false≢true r)), Refuses-returned c.args.self c.insert_located.new.self c.prefix.result.now _ c.prefix.ensures.value e.unchanged.1 e.unchanged.2 e.refuses),
      record { writes_back = tt; value = tt; returned = e.unchanged.0 },
    )
