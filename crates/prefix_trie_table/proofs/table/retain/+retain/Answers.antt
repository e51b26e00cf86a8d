-- The recursion of `retain`, place by place: a value is tested, and a child is walked and then dropped if it is bare.
use Rattle.prefix_trie_table.proofs.Prelude.{◌≡◌, ◌/◌, [], ◌∷◌, ◌++◌, length, take, refl, sym, ap, ◌∙◌, subst, arith, append-nil, append_assoc, false≢true, to_come, CallableOnEachEntry, listing_at_places, State, RetainsTo, IsTrie, All-weaker, All-contains_itself, has_bit, IsPlaceOf, All, HasPlace}
use Rattle.std.specs.List.{Contains}
use Rattle.prefix_trie_table.proofs.Retain.TestCalls.{none_asked}
use Rattle.prefix_trie_table.proofs.Retain.CurrentChild.{child_there, lower_inside, lower_few, lower_fits, lower_site, may_ask_lower, still_site, still_preserved, child_stays, child_goes, site3, lasts3}
use Rattle.prefix_trie_table.proofs.Lookup.NodeMatches.{clear-small}
use Rattle.prefix_trie_table.proofs.Retain.CurrentPlaces.{same_place, this_place, may_ask_this, each_next, apart_next, done_next, preserves_both, preserves_none}
use Rattle.prefix_trie_table.proofs.Retain.RetainedTables.{site_holds, site_node}
use Rattle.prefix_trie_table.proofs.Walk.NextPlaces.{place-value, place-small, place-child-small}
use Rattle.prefix_trie_table.proofs.table.retain.+retain.Goals as goal

pub retain_place-retain_value-requires-clause-bit : goal.retain_place-retain_value-requires-clause-bit
retain_place-retain_value-requires-clause-bit g t c =
    let place = c.requires.place in
    place-small place.string c.in-Value.bit place.short (sym c.in-Value.is ∙ place.is)

pub retain_place-child_slot-slot-requires : goal.retain_place-child_slot-slot-requires
retain_place-child_slot-slot-requires g t c =
    let place = c.requires.place in
    place-child-small place.string c.in-Child.child place.short (sym c.in-Child.is ∙ place.is)

pub retain_place-extend-requires-clause-within : goal.retain_place-extend-requires-clause-within
retain_place-extend-requires-clause-within g t c =
    lower_fits g.K.Key.IsKey g.K.Key.bits g.K.Key.bit_width g.met.K.Key.key_laws.bits_length c.args.nodes.now c.args.site c.args.node c.requires.site c.args.entries.now c.args.cells.now c.requires.trie.0 c.requires.trie.1 c.requires.place c.in-Child.child c.in-Child.is c.child_slot-slot.result c.child_slot-slot.ensures

pub retain_place-extend-requires-clause-fits : goal.retain_place-extend-requires-clause-fits
retain_place-extend-requires-clause-fits g t c =
    let place = c.requires.place in
    place-child-small place.string c.in-Child.child place.short (sym c.in-Child.is ∙ place.is)

pub retain_place-visit-lower-requires : goal.retain_place-visit-lower-requires
retain_place-visit-lower-requires g t c =
    lower_inside g.K.Key.IsKey g.K.Key.bits g.K.Key.bit_width g.met.K.Key.key_laws.bits_length c.args.nodes.now c.args.site c.args.node c.requires.site c.args.entries.now c.args.cells.now c.requires.trie.0 c.requires.trie.1 c.requires.place c.in-Child.child c.in-Child.is c.child_slot-slot.result c.child_slot-slot.ensures

pub retain_place-new-places-requires : goal.retain_place-new-places-requires
retain_place-new-places-requires g t c =
    clear-small c.visit-lower.result.value_bitmap (omega arith) (ap (λ n. has_bit n.value_bitmap 31) c.visit-lower.ensures.node ∙ lower_few g.K.Key.IsKey g.K.Key.bits g.K.Key.bit_width g.met.K.Key.key_laws.bits_length c.args.nodes.now c.args.site c.args.node c.requires.site c.args.entries.now c.args.cells.now c.requires.trie.0 c.requires.trie.1 c.requires.place c.in-Child.child c.in-Child.is c.child_slot-slot.result c.child_slot-slot.ensures)

pub retain_place-retain_places-left-requires : goal.retain_place-retain_places-left-requires
retain_place-retain_places-left-requires g t c κs within =
    let place = c.requires.place in
    let fits = lower_fits g.K.Key.IsKey g.K.Key.bits g.K.Key.bit_width g.met.K.Key.key_laws.bits_length c.args.nodes.now c.args.site c.args.node c.requires.site c.args.entries.now c.args.cells.now c.requires.trie.0 c.requires.trie.1 c.requires.place c.in-Child.child c.in-Child.is c.child_slot-slot.result c.child_slot-slot.ensures in
    let site = lower_site g.K.Key.IsKey g.K.Key.bits g.K.Key.bit_width g.met.K.Key.key_laws.bits_length c.args.nodes.now c.args.site c.args.node c.requires.site c.args.entries.now c.args.cells.now c.requires.trie.0 c.requires.trie.1 c.requires.place c.in-Child.child c.in-Child.is c.child_slot-slot.result c.child_slot-slot.ensures c.extend.result c.extend.ensures.key c.extend.ensures.value c.visit-lower.result c.visit-lower.ensures.node in
    let each : All (IsPlaceOf c.visit-lower.result) (to_come c.new-places.result) = All-weaker (Contains (to_come c.new-places.result)) (IsPlaceOf c.visit-lower.result) (λ u m. (c.new-places.ensures.each u).0 m) (to_come c.new-places.result) (All-contains_itself (to_come c.new-places.result)) in
    let may = λ (x : State g.row.T.Denot) (h : IsTrie g.K.Key.bit_width c.args.entries.now c.args.nodes.now c.args.cells.now x).
    may_ask_lower g.K.Key.IsKey g.K.Key.bits g.K.Key.bit_width g.met.K.Key.key_laws.bits_length c.args.nodes.now c.args.site c.args.node c.requires.site c.args.entries.now c.args.cells.now x h c.requires.place c.in-Child.child c.in-Child.is c.child_slot-slot.result c.child_slot-slot.ensures c.extend.result c.extend.ensures.key c.extend.ensures.value c.visit-lower.result c.visit-lower.ensures.node g.F.Keep.may_return g.F.Keep.accepts c.args.keep.now (to_come c.new-places.result) c.new-places.ensures.places (c.requires.may_ask place.string place.short place.is x h) in
    (omega (arith, fits), (within.0, (within.1.0, (within.1.1.0, (within.1.1.1.0, (within.1.1.1.1, (c.requires.trie, (site, (each, may)))))))))

pub retain_place-drop_child-requires : goal.retain_place-drop_child-requires
retain_place-drop_child-requires g t c =
    let place = c.requires.place in
    let long = g.met.K.Key.key_laws.bits_length c.args.site.key c.requires.site.key in
    let to = c.retain_places-left.ensures.retains c.requires.trie.0 c.requires.trie.1 in
    let held = site_holds g.K.Key.IsKey g.K.Key.bits g.K.Key.bit_width c.retain_places-left.new.nodes c.args.site c.args.node (still_site g.K.Key.IsKey g.K.Key.bits g.K.Key.bit_width g.met.K.Key.key_laws.bits_length c.args.nodes.now c.args.site c.args.node c.requires.site c.args.entries.now c.args.cells.now c.requires.trie.0 c.requires.trie.1 c.requires.place c.in-Child.child c.in-Child.is c.child_slot-slot.result c.child_slot-slot.ensures c.extend.result c.extend.ensures.key c.extend.ensures.value c.visit-lower.result c.visit-lower.ensures.node g.F.Keep.may_return g.F.Keep.accepts (to_come c.new-places.result) c.new-places.ensures.places c.new-places.ensures.each c.args.keep.now c.retain_places-left.new.keep c.retain_places-left.new.entries c.retain_places-left.new.nodes c.retain_places-left.new.cells (c.retain_places-left.ensures.retains c.requires.trie.0 c.requires.trie.1) c.retain_places-left.result c.retain_places-left.ensures.node c.retain_places-left.ensures.preserves) long c.retain_places-left.new.entries c.retain_places-left.new.cells to.after to.trie in
    record {
      child = place-child-small place.string c.in-Child.child place.short (sym c.in-Child.is ∙ place.is);
      is_there = site_node g.K.Key.IsKey g.K.Key.bits g.K.Key.bit_width c.retain_places-left.new.nodes c.args.site c.args.node (still_site g.K.Key.IsKey g.K.Key.bits g.K.Key.bit_width g.met.K.Key.key_laws.bits_length c.args.nodes.now c.args.site c.args.node c.requires.site c.args.entries.now c.args.cells.now c.requires.trie.0 c.requires.trie.1 c.requires.place c.in-Child.child c.in-Child.is c.child_slot-slot.result c.child_slot-slot.ensures c.extend.result c.extend.ensures.key c.extend.ensures.value c.visit-lower.result c.visit-lower.ensures.node g.F.Keep.may_return g.F.Keep.accepts (to_come c.new-places.result) c.new-places.ensures.places c.new-places.ensures.each c.args.keep.now c.retain_places-left.new.keep c.retain_places-left.new.entries c.retain_places-left.new.nodes c.retain_places-left.new.cells (c.retain_places-left.ensures.retains c.requires.trie.0 c.requires.trie.1) c.retain_places-left.result c.retain_places-left.ensures.node c.retain_places-left.ensures.preserves) long c.retain_places-left.new.entries c.retain_places-left.new.cells to.after to.trie;
      there = ap (λ n. has_bit n.child_bitmap c.in-Child.child) held.0 ∙ child_there g.K.Key.IsKey g.K.Key.bits g.K.Key.bit_width g.met.K.Key.key_laws.bits_length c.args.nodes.now c.args.site c.args.node c.requires.site c.args.entries.now c.args.cells.now c.requires.trie.0 c.requires.trie.1 c.requires.place c.in-Child.child c.in-Child.is c.child_slot-slot.result c.child_slot-slot.ensures;
    }

pub retain_place-returns-in-Value : goal.retain_place-returns-in-Value
retain_place-returns-in-Value g t c = record {
  retains = λ u few is x h.
      let kind = place-value u c.in-Value.bit few (sym c.in-Value.is ∙ is) in
      c.retain_value.ensures.retains u kind.0 (sym kind.1) x h;
  node = c.retain_value.ensures.node;
  preserves = c.retain_value.ensures.preserves;
}

pub retain_place-returns-then-is_bare-clause-retains : goal.retain_place-returns-then-is_bare-clause-retains
retain_place-returns-then-is_bare-clause-retains g t c = λ u few is x h.
    let place = c.requires.place in
    subst (λ r. RetainsTo g.F.Keep.may_return g.F.Keep.accepts g.K.Key.bit_width (take c.args.site.depth (g.K.Key.bits c.args.site.key)) (r ∷ []) c.args.keep.now x c.retain_places-left.new.keep c.retain_places-left.new.entries c.drop_child.new.nodes c.retain_places-left.new.cells)
    (same_place place.string u place.short few (sym place.is ∙ is))
    (child_goes g.K.Key.IsKey g.K.Key.bits g.K.Key.bit_width g.met.K.Key.key_laws.bits_length c.args.nodes.now c.args.site c.args.node c.requires.site c.args.entries.now c.args.cells.now x h c.requires.place c.in-Child.child c.in-Child.is c.child_slot-slot.result c.child_slot-slot.ensures c.extend.result c.extend.ensures.key c.extend.ensures.value c.visit-lower.result c.visit-lower.ensures.node g.F.Keep.may_return g.F.Keep.accepts (to_come c.new-places.result) c.new-places.ensures.places c.new-places.ensures.each c.args.keep.now c.retain_places-left.new.keep c.retain_places-left.new.entries c.retain_places-left.new.nodes c.retain_places-left.new.cells (c.retain_places-left.ensures.retains x h) c.retain_places-left.result c.retain_places-left.ensures.node c.retain_places-left.ensures.preserves (c.is_bare.ensures.bare c.if-is_bare.true) c.drop_child.result c.drop_child.new.nodes c.drop_child.ensures.dropped c.drop_child.ensures.space)

pub retain_place-returns-then-is_bare-clause-node : goal.retain_place-returns-then-is_bare-clause-node
retain_place-returns-then-is_bare-clause-node g t c =
    site3 g.K.Key.IsKey g.K.Key.bits g.K.Key.bit_width g.met.K.Key.key_laws.bits_length c.args.nodes.now c.args.site c.args.node c.requires.site c.args.entries.now c.args.cells.now c.requires.trie.0 c.requires.trie.1 c.requires.place c.in-Child.child c.in-Child.is c.child_slot-slot.result c.child_slot-slot.ensures c.extend.result c.extend.ensures.key c.extend.ensures.value c.visit-lower.result c.visit-lower.ensures.node g.F.Keep.may_return g.F.Keep.accepts (to_come c.new-places.result) c.new-places.ensures.places c.new-places.ensures.each c.args.keep.now c.retain_places-left.new.keep c.retain_places-left.new.entries c.retain_places-left.new.nodes c.retain_places-left.new.cells (c.retain_places-left.ensures.retains c.requires.trie.0 c.requires.trie.1) c.retain_places-left.result c.retain_places-left.ensures.node c.retain_places-left.ensures.preserves (c.is_bare.ensures.bare c.if-is_bare.true) c.drop_child.result c.drop_child.new.nodes c.drop_child.ensures.dropped c.drop_child.ensures.space

pub retain_place-returns-then-is_bare-clause-preserves : goal.retain_place-returns-then-is_bare-clause-preserves
retain_place-returns-then-is_bare-clause-preserves g t c =
    lasts3 g.K.Key.IsKey g.K.Key.bits g.K.Key.bit_width g.met.K.Key.key_laws.bits_length c.args.nodes.now c.args.site c.args.node c.requires.site c.args.entries.now c.args.cells.now c.requires.trie.0 c.requires.trie.1 c.requires.place c.in-Child.child c.in-Child.is c.child_slot-slot.result c.child_slot-slot.ensures c.extend.result c.extend.ensures.key c.extend.ensures.value c.visit-lower.result c.visit-lower.ensures.node g.F.Keep.may_return g.F.Keep.accepts (to_come c.new-places.result) c.new-places.ensures.places c.new-places.ensures.each c.args.keep.now c.retain_places-left.new.keep c.retain_places-left.new.entries c.retain_places-left.new.nodes c.retain_places-left.new.cells (c.retain_places-left.ensures.retains c.requires.trie.0 c.requires.trie.1) c.retain_places-left.result c.retain_places-left.ensures.node c.retain_places-left.ensures.preserves (c.is_bare.ensures.bare c.if-is_bare.true) c.drop_child.result c.drop_child.new.nodes c.drop_child.ensures.dropped c.drop_child.ensures.space

pub retain_place-returns-else-is_bare-clause-retains : goal.retain_place-returns-else-is_bare-clause-retains
retain_place-returns-else-is_bare-clause-retains g t c = λ u few is x h.
    let place = c.requires.place in
    subst (λ r. RetainsTo g.F.Keep.may_return g.F.Keep.accepts g.K.Key.bit_width (take c.args.site.depth (g.K.Key.bits c.args.site.key)) (r ∷ []) c.args.keep.now x c.retain_places-left.new.keep c.retain_places-left.new.entries c.retain_places-left.new.nodes c.retain_places-left.new.cells)
    (same_place place.string u place.short few (sym place.is ∙ is))
    (child_stays g.K.Key.IsKey g.K.Key.bits g.K.Key.bit_width g.met.K.Key.key_laws.bits_length c.args.nodes.now c.args.site c.args.node c.requires.site c.args.entries.now c.args.cells.now x h c.requires.place c.in-Child.child c.in-Child.is c.child_slot-slot.result c.child_slot-slot.ensures c.extend.result c.extend.ensures.key c.extend.ensures.value c.visit-lower.result c.visit-lower.ensures.node g.F.Keep.may_return g.F.Keep.accepts (to_come c.new-places.result) c.new-places.ensures.places c.new-places.ensures.each c.args.keep.now c.retain_places-left.new.keep c.retain_places-left.new.entries c.retain_places-left.new.nodes c.retain_places-left.new.cells (c.retain_places-left.ensures.retains x h) c.retain_places-left.result c.retain_places-left.ensures.node c.retain_places-left.ensures.preserves (c.is_bare.ensures.stocked c.if-is_bare.false))

pub retain_place-returns-else-is_bare-clause-node : goal.retain_place-returns-else-is_bare-clause-node
retain_place-returns-else-is_bare-clause-node g t c =
    still_site g.K.Key.IsKey g.K.Key.bits g.K.Key.bit_width g.met.K.Key.key_laws.bits_length c.args.nodes.now c.args.site c.args.node c.requires.site c.args.entries.now c.args.cells.now c.requires.trie.0 c.requires.trie.1 c.requires.place c.in-Child.child c.in-Child.is c.child_slot-slot.result c.child_slot-slot.ensures c.extend.result c.extend.ensures.key c.extend.ensures.value c.visit-lower.result c.visit-lower.ensures.node g.F.Keep.may_return g.F.Keep.accepts (to_come c.new-places.result) c.new-places.ensures.places c.new-places.ensures.each c.args.keep.now c.retain_places-left.new.keep c.retain_places-left.new.entries c.retain_places-left.new.nodes c.retain_places-left.new.cells (c.retain_places-left.ensures.retains c.requires.trie.0 c.requires.trie.1) c.retain_places-left.result c.retain_places-left.ensures.node c.retain_places-left.ensures.preserves

pub retain_place-returns-else-is_bare-clause-preserves : goal.retain_place-returns-else-is_bare-clause-preserves
retain_place-returns-else-is_bare-clause-preserves g t c =
    still_preserved g.K.Key.IsKey g.K.Key.bits g.K.Key.bit_width g.met.K.Key.key_laws.bits_length c.args.nodes.now c.args.site c.args.node c.requires.site c.args.entries.now c.args.cells.now c.requires.trie.0 c.requires.trie.1 c.requires.place c.in-Child.child c.in-Child.is c.child_slot-slot.result c.child_slot-slot.ensures c.extend.result c.extend.ensures.key c.extend.ensures.value c.visit-lower.result c.visit-lower.ensures.node g.F.Keep.may_return g.F.Keep.accepts (to_come c.new-places.result) c.new-places.ensures.places c.new-places.ensures.each c.args.keep.now c.retain_places-left.new.keep c.retain_places-left.new.entries c.retain_places-left.new.nodes c.retain_places-left.new.cells (c.retain_places-left.ensures.retains c.requires.trie.0 c.requires.trie.1) c.retain_places-left.result c.retain_places-left.ensures.node c.retain_places-left.ensures.preserves

pub retain_places-loop-place-init : goal.retain_places-loop-place-init
retain_places-loop-place-init g t c = record {
  site = c.requires.site;
  each = c.requires.each;
  before = [];
  all = refl;
  apart = λ q some coming. absurd (false≢true some);
  done = λ x is. record { after = x; trie = is; retains = none_asked g.F.Keep.may_return g.F.Keep.accepts (take c.args.site.depth (g.K.Key.bits c.args.site.key)) c.args.keep.now x };
  preserves = preserves_none (c.args.site.depth / 5) c.args.nodes.now c.args.cells.now;
}

pub retain_places-retain_place-node-requires : goal.retain_places-retain_place-node-requires
retain_places-retain_place-node-requires g t c κs within =
    let inv = c.loop-place.invariant in
    let taken = c.in-Some.ensures.place in
    let long = g.met.K.Key.key_laws.bits_length c.args.site.key c.requires.site.key in
    let one = inv.done c.requires.trie.0 c.requires.trie.1 in
    let here = this_place g.K.Key.IsKey g.K.Key.bits g.K.Key.bit_width g.F.Keep.may_return g.F.Keep.accepts c.args.site long (to_come c.loop-place.places) inv.before taken.string (to_come c.next_place.new.self) taken.first taken.short c.in-Some.ensures.sorted inv.apart c.loop-place.node inv.each c.args.keep.now c.loop-place.keep c.args.entries.now c.loop-place.entries c.args.nodes.now c.loop-place.nodes c.args.cells.now c.loop-place.cells inv.done in
    let may = λ (x : State g.row.T.Denot) (is : IsTrie g.K.Key.bit_width c.args.entries.now c.args.nodes.now c.args.cells.now x).
    subst (λ us. CallableOnEachEntry g.F.Keep.may_return g.F.Keep.accepts c.args.keep.now (listing_at_places x.entries (take c.args.site.depth (g.K.Key.bits c.args.site.key)) us)) inv.all (c.requires.may_ask x is) in
    let ask = may_ask_this g.K.Key.IsKey g.K.Key.bits g.K.Key.bit_width g.F.Keep.may_return g.F.Keep.accepts c.args.site long (to_come c.loop-place.places) inv.before taken.string (to_come c.next_place.new.self) taken.first taken.short c.in-Some.ensures.sorted inv.apart c.loop-place.node inv.each c.args.keep.now c.loop-place.keep c.args.entries.now c.loop-place.entries c.args.nodes.now c.loop-place.nodes c.args.cells.now c.loop-place.cells inv.done c.requires.trie.0 c.requires.trie.1 may in
    let place : HasPlace c.loop-place.node c.in-Some.place = record { string = taken.string; short = taken.short; is = taken.place; set = here.1 } in
    (omega arith, (within.0, (within.1.0, (within.1.1.0, (within.1.1.1.0, (within.1.1.1.1, ((one.after, one.trie), (inv.site, (place, λ u few is. ask u few (sym taken.place ∙ is))))))))))

pub retain_places-loop-place-smaller : goal.retain_places-loop-place-smaller
retain_places-loop-place-smaller g t c =
    let taken = c.in-Some.ensures.place in
    let e = ap length taken.first in omega (arith, e)

pub retain_places-loop-place-preserved : goal.retain_places-loop-place-preserved
retain_places-loop-place-preserved g t c =
    let inv = c.loop-place.invariant in
    let taken = c.in-Some.ensures.place in
    let long = g.met.K.Key.key_laws.bits_length c.args.site.key c.requires.site.key in
    record {
      site = c.retain_place-node.ensures.node;
      each = each_next g.K.Key.IsKey g.K.Key.bits g.K.Key.bit_width g.F.Keep.may_return g.F.Keep.accepts c.args.site long (to_come c.loop-place.places) inv.before taken.string (to_come c.next_place.new.self) taken.first taken.short c.in-Some.ensures.sorted inv.apart c.loop-place.node inv.each c.args.keep.now c.loop-place.keep c.args.entries.now c.loop-place.entries c.args.nodes.now c.loop-place.nodes c.args.cells.now c.loop-place.cells inv.done c.requires.trie.0 c.requires.trie.1 inv.site c.retain_place-node.result c.retain_place-node.new.keep c.retain_place-node.new.entries c.retain_place-node.new.nodes c.retain_place-node.new.cells c.retain_place-node.ensures.node (c.retain_place-node.ensures.retains taken.string taken.short taken.place);
      before = inv.before ++ taken.string ∷ [];
      all = inv.all ∙ ap (λ us. inv.before ++ us) taken.first ∙ sym (append_assoc inv.before (taken.string ∷ []) (to_come c.next_place.new.self));
      apart = apart_next g.K.Key.IsKey g.K.Key.bits g.K.Key.bit_width g.F.Keep.may_return g.F.Keep.accepts c.args.site long (to_come c.loop-place.places) inv.before taken.string (to_come c.next_place.new.self) taken.first taken.short c.in-Some.ensures.sorted inv.apart c.loop-place.node inv.each c.args.keep.now c.loop-place.keep c.args.entries.now c.loop-place.entries c.args.nodes.now c.loop-place.nodes c.args.cells.now c.loop-place.cells inv.done;
      done = done_next g.K.Key.IsKey g.K.Key.bits g.K.Key.bit_width g.F.Keep.may_return g.F.Keep.accepts c.args.site long (to_come c.loop-place.places) inv.before taken.string (to_come c.next_place.new.self) taken.first taken.short c.in-Some.ensures.sorted inv.apart c.loop-place.node inv.each c.args.keep.now c.loop-place.keep c.args.entries.now c.loop-place.entries c.args.nodes.now c.loop-place.nodes c.args.cells.now c.loop-place.cells inv.done c.retain_place-node.new.keep c.retain_place-node.new.entries c.retain_place-node.new.nodes c.retain_place-node.new.cells (c.retain_place-node.ensures.retains taken.string taken.short taken.place);
      preserves = preserves_both (c.args.site.depth / 5) c.args.nodes.now c.loop-place.nodes c.retain_place-node.new.nodes c.args.cells.now c.loop-place.cells c.retain_place-node.new.cells inv.preserves c.retain_place-node.ensures.preserves;
    }

pub retain_places-returns-clause-retains : goal.retain_places-returns-clause-retains
retain_places-returns-clause-retains g t c = λ x is.
    let inv = c.loop-place.invariant in
    let none : to_come c.loop-place.places ≡ [] = c.in_default.ensures.place.0 in
    subst (λ us. RetainsTo g.F.Keep.may_return g.F.Keep.accepts g.K.Key.bit_width (take c.args.site.depth (g.K.Key.bits c.args.site.key)) us c.args.keep.now x c.loop-place.keep c.loop-place.entries c.loop-place.nodes c.loop-place.cells)
    (sym (inv.all ∙ ap (λ us. inv.before ++ us) none ∙ append-nil inv.before)) (inv.done x is)

pub retain_places-returns-clause-node : goal.retain_places-returns-clause-node
retain_places-returns-clause-node g t c = c.loop-place.invariant.site

pub retain_places-returns-clause-preserves : goal.retain_places-returns-clause-preserves
retain_places-returns-clause-preserves g t c = c.loop-place.invariant.preserves
