-- The places that a string begins in its own node lead to exactly the entries below it, which the test rejects.
use Rattle.prefix_trie_table.proofs.Prelude.{◌≡◌, ◌*◌, ◌/◌, sym, ap, ◌∙◌, subst, arith, All-weaker, All-contains_itself, is_in, to_come, and-first, is_in-and, CallableOnEachEntry, AsksUpTo, PreservesBelow, read, IsPlaceOf}
use Rattle.std.specs.List.{Contains}
use Rattle.prefix_trie_table.proofs.Lookup.SearchPaths.{own_short}
use Rattle.prefix_trie_table.proofs.Removal.RemovedParts.{home_steps, own_site, part_emptied, part_listed}
use Rattle.prefix_trie_table.proofs.table.part_removal.empty_part.Goals as goal

pub overflow_mul-depth : goal.overflow_mul-depth
overflow_mul-depth g c = let own = c.requires.own in let whole = own.along.whole in let short = own.short in omega (arith, whole, short)

pub value_cover_mask-requires : goal.value_cover_mask-requires
value_cover_mask-requires g c = rw c.after-rest.ensures (own_short c.args.path.now c.args.here c.args.nodes.now c.requires.own)

pub child_cover_mask-requires : goal.child_cover_mask-requires
child_cover_mask-requires g c = rw c.after-rest.ensures (own_short c.args.path.now c.args.here c.args.nodes.now c.requires.own)

pub retain_places-requires-clause-site : goal.retain_places-requires-clause-site
retain_places-requires-clause-site g c =
    own_site g.K.Key.IsKey g.K.Key.bits g.K.Key.bit_width c.key.result c.key.ensures.key c.args.path.now c.key.ensures.bits c.key.ensures.within c.args.here c.args.nodes.now c.requires.own
    c.args.entries.now c.args.cells.now c.requires.trie.0 c.requires.trie.1

pub retain_places-requires-clause-each : goal.retain_places-requires-clause-each
retain_places-requires-clause-each g c =
    All-weaker (Contains (to_come c.new-places.result)) (IsPlaceOf c.args.here.node)
    (λ u m.
    let of_masks = (c.new-places.ensures.each u).0 m in (
      of_masks.0,
      and-first (is_in c.args.here.node.value_bitmap c.args.here.node.child_bitmap u) (is_in c.value_cover_mask.result c.child_cover_mask.result u)
          (sym (is_in-and c.args.here.node.value_bitmap c.args.here.node.child_bitmap c.value_cover_mask.result c.child_cover_mask.result u) ∙ of_masks.1),
    ))
    (to_come c.new-places.result) (All-contains_itself (to_come c.new-places.result))

pub retain_places-requires-clause-may_ask : goal.retain_places-requires-clause-may_ask
retain_places-requires-clause-may_ask g c = λ s trie.
    subst (CallableOnEachEntry g.F.Keep.may_return g.F.Keep.accepts c.args.keep.now)
    (sym (part_listed g.K.Key.IsKey g.K.Key.bits g.K.Key.bit_width c.key.result c.key.ensures.key c.args.path.now c.key.ensures.bits c.key.ensures.within c.args.here c.args.nodes.now c.requires.own
    c.args.entries.now c.args.cells.now s trie c.after-rest.result c.after-rest.ensures c.value_cover_mask.result c.child_cover_mask.result c.value_cover_mask.ensures c.child_cover_mask.ensures
    (to_come c.new-places.result) c.new-places.ensures.each c.new-places.ensures.places))
    (c.requires.may_ask s trie)

pub returns-clause-emptied : goal.returns-clause-emptied
returns-clause-emptied g c = λ s trie.
    let to = c.retain_places.ensures.retains s trie in
    record {
      trie =
          part_emptied g.K.Key.IsKey g.K.Key.bits g.K.Key.bit_width c.key.result c.key.ensures.key c.args.path.now c.key.ensures.bits c.key.ensures.within c.args.here c.args.nodes.now c.requires.own
          c.args.entries.now c.args.cells.now s trie c.after-rest.result c.after-rest.ensures c.value_cover_mask.result c.child_cover_mask.result c.value_cover_mask.ensures c.child_cover_mask.ensures
          (to_come c.new-places.result) c.new-places.ensures.each _ c.requires.none _ _ _ _ _ _ to;
      up_to =
          subst (λ es. AsksUpTo g.F.Keep.may_return c.args.keep.now es c.retain_places.new.keep)
          (part_listed g.K.Key.IsKey g.K.Key.bits g.K.Key.bit_width c.key.result c.key.ensures.key c.args.path.now c.key.ensures.bits c.key.ensures.within c.args.here c.args.nodes.now c.requires.own
          c.args.entries.now c.args.cells.now s trie c.after-rest.result c.after-rest.ensures c.value_cover_mask.result c.child_cover_mask.result c.value_cover_mask.ensures c.child_cover_mask.ensures
          (to_come c.new-places.result) c.new-places.ensures.each c.new-places.ensures.places)
          to.retains.up_to;
    }

pub returns-clause-node : goal.returns-clause-node
returns-clause-node g c =
    ap (read c.retain_places.new.nodes.slots)
    (sym (home_steps g.K.Key.IsKey g.K.Key.bits g.K.Key.bit_width c.key.result c.key.ensures.key c.args.path.now c.key.ensures.bits c.key.ensures.within c.args.here c.args.nodes.now c.requires.own
    c.args.entries.now c.args.cells.now c.requires.trie.0 c.requires.trie.1))
    ∙ c.retain_places.ensures.node.is_there

pub returns-clause-preserves : goal.returns-clause-preserves
returns-clause-preserves g c =
    let whole : 5 * c.args.here.level / 5 ≡ c.args.here.level = omega arith in
    subst (λ n. PreservesBelow n c.args.nodes.now c.retain_places.new.nodes c.args.cells.now c.retain_places.new.cells) whole c.retain_places.ensures.preserves

pub retain_places-requires-clause-trie : goal.retain_places-requires-clause-trie
retain_places-requires-clause-trie g c = c.requires.trie
