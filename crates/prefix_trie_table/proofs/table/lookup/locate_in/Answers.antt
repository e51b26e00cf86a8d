-- Locating a value, in three cases: its node is missing, its bit is not set, or it is stored at the seat of its bit.
use Rattle.prefix_trie_table.proofs.Prelude.{◌<◌, ◌/◌, ◌∙◌, length, sym, ap, arith}
use Rattle.prefix_trie_table.proofs.Lookup.PathEnds.{is_end, seat_none, seat_here}
use Rattle.prefix_trie_table.proofs.Lookup.NodeSeats.{no_seat}
use Rattle.prefix_trie_table.proofs.Lookup.SearchPaths.{none_at_end, none_left, path_read, step_left}
use Rattle.prefix_trie_table.proofs.table.lookup.locate_in.Goals as goal

pub search_end-requires-clause-along : goal.search_end-requires-clause-along
search_end-requires-clause-along g c = (c.args.path, c.descend-rest.ensures.last.along)

pub search_end-requires-then-not-has_bit-clause-along : goal.search_end-requires-then-not-has_bit-clause-along
search_end-requires-then-not-has_bit-clause-along g c = (c.args.path, c.descend-rest.ensures.last.along)

pub returns-then-reached-last : goal.returns-then-reached-last
returns-then-reached-last g c =
    let s = c.requires.sound in
    let e = c.descend-rest.ensures in
    record {
      located = is_end _ _ _ _ c.search_end.result (no_seat _ s.reading s.paths s.hold _ (none_at_end _ _ _ e.last s.reading s.paths s.hold _ e.rest (step_left _ _ c.descend-rest.result.0.level _ e.rest (ap (λ n. n / 5) c.len-last.ensures.len) (omega (arith, c.if-reached-last.true))))) e.last e.rest c.search_end.ensures;
      visits = path_read _ _ _ e.last _ _ e.visits;
    }

pub returns-then-not-has_bit : goal.returns-then-not-has_bit
returns-then-not-has_bit g c =
    let s = c.requires.sound in
    let e = c.descend-rest.ensures in
    let short : length c.descend-rest.result.1 < 5 = none_left _ _ c.descend-rest.result.0.level _ e.rest (ap (λ n. n / 5) c.len-last.ensures.len) (omega (arith, c.if-reached-last.false)) in
    record {
      located = is_end _ _ _ _ c.search_end-then-not-has_bit.result (seat_none _ s.reading s.paths s.hold _ _ e.last _ e.rest short _ c.value_bit-bit.ensures.small c.value_bit-bit.ensures.value (sym c.has_bit.ensures ∙ c.if-not-has_bit.true)) e.last e.rest c.search_end-then-not-has_bit.ensures;
      visits = path_read _ _ _ e.last _ _ e.visits;
    }

pub returns : goal.returns
returns g c =
    let s = c.requires.sound in
    let e = c.descend-rest.ensures in
    let short : length c.descend-rest.result.1 < 5 = none_left _ _ c.descend-rest.result.0.level _ e.rest (ap (λ n. n / 5) c.len-last.ensures.len) (omega (arith, c.if-reached-last.false)) in
    record {
      located = seat_here _ s.reading s.paths s.hold _ _ e.last _ e.rest short _ c.value_bit-bit.ensures.small c.value_bit-bit.ensures.value (sym c.has_bit.ensures ∙ c.if-not-has_bit.false) _ c.value_seat.ensures;
      visits = path_read _ _ _ e.last _ _ e.visits;
    }

-- a goal whose proof `search` takes seconds to find

pub value_bit-bit-requires : goal.value_bit-bit-requires
value_bit-bit-requires g c =
    none_left _ _ c.descend-rest.result.0.level _ c.descend-rest.ensures.rest (ap (λ n. n / 5) c.len-last.ensures.len) (omega (arith, c.if-reached-last.false))
