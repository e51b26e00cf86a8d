-- The next place of two nodes, in three cases: none is left, a key comes, or the spot of two children.
use Rattle.prefix_trie_table.proofs.Prelude.{◌≡◌, length, refl, sym, ap, ◌∙◌, arith, length-digits}
use Rattle.prefix_trie_table.proofs.Walk.NextPlaces.{lighter, place-value, place-child, place-small, place-child-small, same_above}
use Rattle.prefix_trie_table.proofs.Walk.CombinedSpots.{goes_on, value_space, gives_key, key_filled, left_seated, right_seated, child_space, left_inside, right_inside, left_few, right_few, child_spot, child_still, child_lighter}
use Rattle.prefix_trie_table.proofs.table.combined_spot.next_at_both.Goals as goal

pub string_of-n-requires : goal.string_of-n-requires
string_of-n-requires g c =
    let taken = c.in-Some.ensures.place in
    place-small taken.string c.in-Value.bit taken.short (sym c.in-Value.is ∙ taken.place)

pub extend-requires-clause-within : goal.extend-requires-clause-within
extend-requires-clause-within g c =
    let taken = c.in-Some.ensures.place in
    let is = place-value taken.string c.in-Value.bit taken.short (sym c.in-Value.is ∙ taken.place) in
    let space = value_space _ c.args.left.now c.args.right.now _ _ c.args.at.now c.requires.spot (g.met.K.Key.key_laws.bits_length c.args.key c.is_key.ensures.key) taken.string c.next_place.new.self taken.first c.requires.trees.0 c.requires.trees.1 c.requires.trees.2 is.0 in
    let n_is : length taken.string ≡ c.string_of-n.result.0 = ap length (c.string_of-n.ensures.only taken.string (sym is.1)) ∙ length-digits c.string_of-n.result.0 c.string_of-n.result.1 in
    omega (arith, space, n_is)

pub seat_at-requires : goal.seat_at-requires
seat_at-requires g c =
    let taken = c.in-Some.ensures.place in
    let small = place-small taken.string c.in-Value.bit taken.short (sym c.in-Value.is ∙ taken.place) in omega (arith, small)

pub seat_at-requires-in-Value : goal.seat_at-requires-in-Value
seat_at-requires-in-Value g c =
    let taken = c.in-Some.ensures.place in
    let small = place-small taken.string c.in-Value.bit taken.short (sym c.in-Value.is ∙ taken.place) in omega (arith, small)

pub child_or_blank-first-requires-clause-small : goal.child_or_blank-first-requires-clause-small
child_or_blank-first-requires-clause-small g c =
    let taken = c.in-Some.ensures.place in
    place-child-small taken.string c.in-Child.child taken.short (sym c.in-Child.is ∙ taken.place)

pub child_or_blank-first-requires-clause-is_there : goal.child_or_blank-first-requires-clause-is_there
child_or_blank-first-requires-clause-is_there g c =
    let taken = c.in-Some.ensures.place in
    let is = place-child taken.string c.in-Child.child taken.short (sym c.in-Child.is ∙ taken.place) in
    left_inside _ c.args.left.now c.args.right.now _ _ c.args.at.now c.requires.spot (g.met.K.Key.key_laws.bits_length c.args.key c.is_key.ensures.key) taken.string c.next_place.new.self taken.first c.requires.trees.0 c.requires.trees.1 c.requires.trees.2 is.0 c.in-Child.child is.1

pub child_or_blank-second-requires-clause-small : goal.child_or_blank-second-requires-clause-small
child_or_blank-second-requires-clause-small g c =
    let taken = c.in-Some.ensures.place in
    place-child-small taken.string c.in-Child.child taken.short (sym c.in-Child.is ∙ taken.place)

pub child_or_blank-second-requires-clause-is_there : goal.child_or_blank-second-requires-clause-is_there
child_or_blank-second-requires-clause-is_there g c =
    let taken = c.in-Some.ensures.place in
    let is = place-child taken.string c.in-Child.child taken.short (sym c.in-Child.is ∙ taken.place) in
    right_inside _ c.args.left.now c.args.right.now _ _ c.args.at.now c.requires.spot (g.met.K.Key.key_laws.bits_length c.args.key c.is_key.ensures.key) taken.string c.next_place.new.self taken.first c.requires.trees.0 c.requires.trees.1 c.requires.trees.2 is.0 c.in-Child.child is.1

pub extend-below-requires-clause-within : goal.extend-below-requires-clause-within
extend-below-requires-clause-within g c =
    let taken = c.in-Some.ensures.place in
    let is = place-child taken.string c.in-Child.child taken.short (sym c.in-Child.is ∙ taken.place) in
    child_space _ c.args.left.now c.args.right.now _ _ c.args.at.now c.requires.spot (g.met.K.Key.key_laws.bits_length c.args.key c.is_key.ensures.key) taken.string c.next_place.new.self taken.first c.requires.trees.0 c.requires.trees.1 c.requires.trees.2 is.0

pub extend-below-requires-clause-fits : goal.extend-below-requires-clause-fits
extend-below-requires-clause-fits g c =
    let taken = c.in-Some.ensures.place in
    place-child-small taken.string c.in-Child.child taken.short (sym c.in-Child.is ∙ taken.place)

pub combined_spot-requires-clause-few : goal.combined_spot-requires-clause-few
combined_spot-requires-clause-few g c =
    let taken = c.in-Some.ensures.place in
    let is = place-child taken.string c.in-Child.child taken.short (sym c.in-Child.is ∙ taken.place) in
    left_few _ c.args.left.now c.args.right.now _ _ c.args.at.now c.requires.spot (g.met.K.Key.key_laws.bits_length c.args.key c.is_key.ensures.key) taken.string c.next_place.new.self taken.first c.requires.trees.0 c.requires.trees.1 c.requires.trees.2 is.0 c.in-Child.child is.1 c.child_or_blank-first.result c.child_or_blank-first.ensures

pub combined_spot-requires-clause-few_right : goal.combined_spot-requires-clause-few_right
combined_spot-requires-clause-few_right g c =
    let taken = c.in-Some.ensures.place in
    let is = place-child taken.string c.in-Child.child taken.short (sym c.in-Child.is ∙ taken.place) in
    right_few _ c.args.left.now c.args.right.now _ _ c.args.at.now c.requires.spot (g.met.K.Key.key_laws.bits_length c.args.key c.is_key.ensures.key) taken.string c.next_place.new.self taken.first c.requires.trees.0 c.requires.trees.1 c.requires.trees.2 is.0 c.in-Child.child is.1 c.child_or_blank-second.result c.child_or_blank-second.ensures

pub returns-in-Value : goal.returns-in-Value
returns-in-Value g c =
    let taken = c.in-Some.ensures.place in
    let is = place-value taken.string c.in-Value.bit taken.short (sym c.in-Value.is ∙ taken.place) in
    let reach = g.met.K.Key.key_laws.bits_length c.args.key c.is_key.ensures.key in (
      (λ both combined.
          gives_key _ c.args.left.now c.args.right.now _ _ c.args.at.now c.requires.spot reach taken.string c.next_place.new.self taken.first c.requires.trees.0 c.requires.trees.1 c.requires.trees.2 is.0
          g.K.Key.IsKey g.K.Key.bits c.extend.result c.extend.ensures.key c.string_of-n.result.0 c.string_of-n.result.1 (c.string_of-n.ensures.only taken.string (sym is.1)) c.extend.ensures.value
          c.in-Value.bit is.1 _ _ c.seat_at.ensures c.seat_at-in-Value.ensures both combined),
      key_filled _ c.args.left.now c.args.right.now _ _ c.args.at.now c.requires.spot reach taken.string c.next_place.new.self taken.first c.requires.trees.0 c.requires.trees.1 c.requires.trees.2 is.0
          g.K.Key.IsKey g.K.Key.bits c.extend.result c.extend.ensures.key c.string_of-n.result.0 c.string_of-n.result.1 (c.string_of-n.ensures.only taken.string (sym is.1)) c.extend.ensures.value
          c.in-Value.bit is.1 _ _ c.seat_at.ensures c.seat_at-in-Value.ensures,
      left_seated _ c.args.left.now c.args.right.now _ _ c.args.at.now c.requires.spot reach taken.string c.next_place.new.self taken.first c.requires.trees.0 c.requires.trees.1 c.requires.trees.2 is.0
          g.K.Key.IsKey g.K.Key.bits c.extend.result c.extend.ensures.key c.string_of-n.result.0 c.string_of-n.result.1 (c.string_of-n.ensures.only taken.string (sym is.1)) c.extend.ensures.value
          c.in-Value.bit is.1 _ _ c.seat_at.ensures c.seat_at-in-Value.ensures,
      right_seated _ c.args.left.now c.args.right.now _ _ c.args.at.now c.requires.spot reach taken.string c.next_place.new.self taken.first c.requires.trees.0 c.requires.trees.1 c.requires.trees.2 is.0
          g.K.Key.IsKey g.K.Key.bits c.extend.result c.extend.ensures.key c.string_of-n.result.0 c.string_of-n.result.1 (c.string_of-n.ensures.only taken.string (sym is.1)) c.extend.ensures.value
          c.in-Value.bit is.1 _ _ c.seat_at.ensures c.seat_at-in-Value.ensures,
      lighter c.args.at.now.spot taken.string c.next_place.new.self taken.first,
      goes_on _ c.args.left.now c.args.right.now _ _ c.args.at.now c.requires.spot reach taken.string c.next_place.new.self taken.first,
      refl,
    )

pub returns-in-Child : goal.returns-in-Child
returns-in-Child g c =
    let taken = c.in-Some.ensures.place in
    let is = place-child taken.string c.in-Child.child taken.short (sym c.in-Child.is ∙ taken.place) in
    let reach = g.met.K.Key.key_laws.bits_length c.args.key c.is_key.ensures.key in
    let reaches = g.met.K.Key.key_laws.bits_length c.extend-below.result c.extend-below.ensures.key in
    let left_is = c.combined_spot.ensures.left ∙ c.child_or_blank-first.ensures in
    let right_is = c.combined_spot.ensures.right ∙ c.child_or_blank-second.ensures in
    let below = g.K.Key.bits c.extend-below.result in
    let child = c.combined_spot.result in (
      (λ both combined.
          child_still _ c.args.left.now c.args.right.now _ _ c.args.at.now c.requires.spot reach taken.string c.next_place.new.self taken.first c.requires.trees.0 c.requires.trees.1 c.requires.trees.2 is.0 c.in-Child.child is.1
          below child reaches c.extend-below.ensures.value c.combined_spot.ensures.depth left_is right_is c.combined_spot.ensures.places c.combined_spot.ensures.each both combined),
      child_lighter _ c.args.left.now c.args.right.now _ _ c.args.at.now c.requires.spot reach taken.string c.next_place.new.self taken.first c.requires.trees.0 c.requires.trees.1 c.requires.trees.2 is.0 c.in-Child.child is.1
          below child reaches c.extend-below.ensures.value c.combined_spot.ensures.depth left_is right_is c.combined_spot.ensures.places c.combined_spot.ensures.each g.met.K.Key.key_laws.at_most_128,
      goes_on _ c.args.left.now c.args.right.now _ _ c.args.at.now c.requires.spot reach taken.string c.next_place.new.self taken.first,
      refl,
      child_spot _ c.args.left.now c.args.right.now _ _ c.args.at.now c.requires.spot reach taken.string c.next_place.new.self taken.first c.requires.trees.0 c.requires.trees.1 c.requires.trees.2 is.0 c.in-Child.child is.1
          below child reaches c.extend-below.ensures.value c.combined_spot.ensures.depth left_is right_is c.combined_spot.ensures.places c.combined_spot.ensures.each,
      c.combined_spot.ensures.depth,
      same_above _ _ c.requires.spot.long below _ _ c.extend-below.ensures.value,
    )
