-- The next place of a spot, in three cases: none is left, a value's entry comes, or a child's spot is entered.
use Rattle.prefix_trie_table.proofs.Prelude.{◌≡◌, ◌+◌, ◌-◌, length, refl, sym, ap, ◌∙◌, arith, digits, zeros, length-digits, value_seat}
use Rattle.prefix_trie_table.proofs.Walk.NextPlaces.{lighter, place-value, place-child, place-small, place-child-small, same_above}
use Rattle.prefix_trie_table.proofs.Walk.Spots.{ends_here, child_passed, goes_on, value_space, gives_value, value_seated, child_space, child_here, child_spot, child_still, child_lighter}
use Rattle.prefix_trie_table.proofs.table.spot.next_at.Goals as goal

pub string_of-n-requires : goal.string_of-n-requires
string_of-n-requires g c =
    let taken = c.in-Some.ensures.place in
    place-small taken.string c.in-Value.bit taken.short (sym c.in-Value.is ∙ taken.place)

pub value_seat-requires : goal.value_seat-requires
value_seat-requires g c =
    let taken = c.in-Some.ensures.place in
    let small = place-small taken.string c.in-Value.bit taken.short (sym c.in-Value.is ∙ taken.place) in omega (arith, small)

pub extend-requires-clause-within : goal.extend-requires-clause-within
extend-requires-clause-within g c =
    let taken = c.in-Some.ensures.place in
    let is = place-value taken.string c.in-Value.bit taken.short (sym c.in-Value.is ∙ taken.place) in
    let space = value_space _ c.args.nodes.now _ _ c.requires.spot (g.met.K.Key.key_laws.bits_length c.args.key c.is_key.ensures.key) taken.string c.next_place.new.self taken.first c.requires.tree.0 c.requires.tree.1 is.0 in
    let n_is : length taken.string ≡ c.string_of-n.result.0 = ap length (c.string_of-n.ensures.only taken.string (sym is.1)) ∙ length-digits c.string_of-n.result.0 c.string_of-n.result.1 in
    omega (arith, space, n_is)

pub returns-in-Value : goal.returns-in-Value
returns-in-Value g c =
    let taken = c.in-Some.ensures.place in
    let is = place-value taken.string c.in-Value.bit taken.short (sym c.in-Value.is ∙ taken.place) in
    record {
      step = λ t tree. (
        gives_value _ c.args.nodes.now _ _ c.requires.spot (g.met.K.Key.key_laws.bits_length c.args.key c.is_key.ensures.key) taken.string c.next_place.new.self taken.first t tree is.0 g.K.Key.IsKey g.K.Key.bits c.extend.result c.extend.ensures.key c.string_of-n.result.0 c.string_of-n.result.1 (c.string_of-n.ensures.only taken.string (sym is.1)) c.extend.ensures.value _ (c.value_seat.ensures ∙ ap (value_seat c.args.spot.now.node) is.1),
        lighter c.args.spot.now taken.string c.next_place.new.self taken.first,
        goes_on _ c.args.nodes.now _ _ c.requires.spot (g.met.K.Key.key_laws.bits_length c.args.key c.is_key.ensures.key) taken.string c.next_place.new.self taken.first,
        refl,
      );
      seat = value_seated _ c.args.nodes.now _ _ c.requires.spot (g.met.K.Key.key_laws.bits_length c.args.key c.is_key.ensures.key) taken.string c.next_place.new.self taken.first c.requires.tree.0 c.requires.tree.1 is.0 g.K.Key.IsKey g.K.Key.bits c.extend.result c.extend.ensures.key c.string_of-n.result.0 c.string_of-n.result.1 (c.string_of-n.ensures.only taken.string (sym is.1)) c.extend.ensures.value _ (c.value_seat.ensures ∙ ap (value_seat c.args.spot.now.node) is.1);
      search_path = ends_here _ c.args.nodes.now _ _ c.requires.spot (g.met.K.Key.key_laws.bits_length c.args.key c.is_key.ensures.key) taken.string c.next_place.new.self taken.first c.requires.tree.0 c.requires.tree.1 is.0 g.K.Key.IsKey g.K.Key.bits c.extend.result c.extend.ensures.key c.string_of-n.result.0 c.string_of-n.result.1 (c.string_of-n.ensures.only taken.string (sym is.1)) c.extend.ensures.value;
    }

pub child_slot-at-requires : goal.child_slot-at-requires
child_slot-at-requires g c =
    let taken = c.in-Some.ensures.place in
    place-child-small taken.string c.in-Child.child taken.short (sym c.in-Child.is ∙ taken.place)

pub extend-below-requires-clause-within : goal.extend-below-requires-clause-within
extend-below-requires-clause-within g c =
    let taken = c.in-Some.ensures.place in
    let is = place-child taken.string c.in-Child.child taken.short (sym c.in-Child.is ∙ taken.place) in
    child_space _ c.args.nodes.now _ _ c.requires.spot (g.met.K.Key.key_laws.bits_length c.args.key c.is_key.ensures.key) taken.string c.next_place.new.self taken.first c.requires.tree.0 c.requires.tree.1 is.0

pub extend-below-requires-clause-fits : goal.extend-below-requires-clause-fits
extend-below-requires-clause-fits g c =
    let taken = c.in-Some.ensures.place in
    place-child-small taken.string c.in-Child.child taken.short (sym c.in-Child.is ∙ taken.place)

pub enter-requires : goal.enter-requires
enter-requires g c =
    let taken = c.in-Some.ensures.place in
    let is = place-child taken.string c.in-Child.child taken.short (sym c.in-Child.is ∙ taken.place) in
    let h = child_here _ c.args.nodes.now _ _ c.requires.spot (g.met.K.Key.key_laws.bits_length c.args.key c.is_key.ensures.key) taken.string c.next_place.new.self taken.first c.requires.tree.0 c.requires.tree.1 is.0 c.in-Child.child _ is.1 c.child_slot-at.ensures in record { is_there = h.0; few = h.1 }

pub returns-in-Child-clause-step : goal.returns-in-Child-clause-step
returns-in-Child-clause-step g c =
    λ t tree.
    let taken = c.in-Some.ensures.place in
    let is = place-child taken.string c.in-Child.child taken.short (sym c.in-Child.is ∙ taken.place) in
    let reach = g.met.K.Key.key_laws.bits_length c.extend-below.result c.extend-below.ensures.key in
    let extended = c.extend-below.ensures.value in
    let below = g.K.Key.bits c.extend-below.result in
    let child = c.enter.result in (
      child_still _ c.args.nodes.now _ _ c.requires.spot (g.met.K.Key.key_laws.bits_length c.args.key c.is_key.ensures.key) taken.string c.next_place.new.self taken.first t tree is.0 c.in-Child.child _ is.1 c.child_slot-at.ensures below child reach extended c.enter.ensures.depth c.enter.ensures.node c.enter.ensures.places c.enter.ensures.each,
      child_lighter _ c.args.nodes.now _ _ c.requires.spot (g.met.K.Key.key_laws.bits_length c.args.key c.is_key.ensures.key) taken.string c.next_place.new.self taken.first t tree is.0 c.in-Child.child _ is.1 c.child_slot-at.ensures below child reach extended c.enter.ensures.depth c.enter.ensures.node c.enter.ensures.places c.enter.ensures.each g.met.K.Key.key_laws.at_most_128,
      goes_on _ c.args.nodes.now _ _ c.requires.spot (g.met.K.Key.key_laws.bits_length c.args.key c.is_key.ensures.key) taken.string c.next_place.new.self taken.first,
      refl,
      child_spot _ c.args.nodes.now _ _ c.requires.spot (g.met.K.Key.key_laws.bits_length c.args.key c.is_key.ensures.key) taken.string c.next_place.new.self taken.first t tree is.0 c.in-Child.child _ is.1 c.child_slot-at.ensures below child reach extended c.enter.ensures.depth c.enter.ensures.node c.enter.ensures.places c.enter.ensures.each,
      c.enter.ensures.depth,
      same_above _ _ c.requires.spot.long below (digits 5 c.in-Child.child) (zeros (g.K.Key.bit_width - (c.args.spot.now.depth + 5))) extended,
    )

pub returns-in-Child-clause-search_path : goal.returns-in-Child-clause-search_path
returns-in-Child-clause-search_path g c =
    let taken = c.in-Some.ensures.place in
    let is = place-child taken.string c.in-Child.child taken.short (sym c.in-Child.is ∙ taken.place) in
    child_passed _ c.args.nodes.now _ _ c.requires.spot (g.met.K.Key.key_laws.bits_length c.args.key c.is_key.ensures.key) taken.string c.next_place.new.self taken.first c.requires.tree.0 c.requires.tree.1 is.0
    c.next_place.ensures.sorted c.in-Child.child is.1 (g.K.Key.bits c.extend-below.result) (zeros (g.K.Key.bit_width - (c.args.spot.now.depth + 5))) c.extend-below.ensures.value
