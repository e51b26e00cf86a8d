-- A value of a node, in two cases: the test accepts it and nothing changes, or it is removed and passed to `taken`.
use Rattle.prefix_trie_table.proofs.Prelude.{◌≡◌, ◌-◌, [], ◌∷◌, take, true, false, Some, unwrap_or, is_some, refl, sym, ap, ◌∙◌, subst, arith, option_copied, false≢true, digits, RetainsTo}
use Rattle.prefix_trie_table.proofs.Strings.Bits.{has_bit-is}
use Rattle.prefix_trie_table.proofs.Retain.RetainedTables.{site_holds, site_values}
use Rattle.prefix_trie_table.proofs.Insertion.Spaces.{Grows-none}
use Rattle.prefix_trie_table.proofs.Retain.CurrentPlaces.{preserves_none}
use Rattle.prefix_trie_table.proofs.Removal.SizeBounds.{stays_grown}
use Rattle.prefix_trie_table.proofs.Retain.CurrentValue.{short, value_slot, value_got, value_some, value_space, key_taken, may_ask_here, stays_here, goes_here, taken_here, counted_here, above_here, blocks_here, site_here, trie_goes}
use Rattle.prefix_trie_table.proofs.table.retain.retain_value.Goals as goal

pub at-requires : goal.at-requires
at-requires g c =
    value_slot g.K.Key.IsKey g.K.Key.bits g.K.Key.bit_width c.args.nodes.now c.args.site c.args.node c.requires.site g.met.K.Key.key_laws.bits_length c.args.entries.now c.args.cells.now c.requires.trie.0 c.requires.trie.1 c.args.bit c.string_of-n.result.0 c.string_of-n.result.1 c.requires.bit c.string_of-n.ensures.short c.string_of-n.ensures.bit c.requires.set c.value_seat.result.slot (ap (λ s. s.slot) c.value_seat.ensures)

pub unreachable-requires : goal.unreachable-requires
unreachable-requires g c =
    let got = value_got g.K.Key.IsKey g.K.Key.bits g.K.Key.bit_width c.args.nodes.now c.args.site c.args.node c.requires.site g.met.K.Key.key_laws.bits_length c.args.entries.now c.args.cells.now c.requires.trie.0 c.requires.trie.1 c.args.bit c.string_of-n.result.0 c.string_of-n.result.1 c.requires.bit c.string_of-n.ensures.short c.string_of-n.ensures.bit c.requires.set c.value_seat.result.slot c.at.result.now (ap (λ s. s.slot) c.value_seat.ensures) c.at.ensures.slot in
    let some = value_some g.K.Key.IsKey g.K.Key.bits g.K.Key.bit_width c.args.nodes.now c.args.site c.args.node c.requires.site g.met.K.Key.key_laws.bits_length c.args.entries.now c.args.cells.now c.requires.trie.0 c.requires.trie.1 c.args.bit c.string_of-n.result.0 c.string_of-n.result.1 c.requires.bit c.string_of-n.ensures.short c.string_of-n.ensures.bit c.requires.set in
    false≢true (sym (ap is_some c.in_default.is) ∙ c.as_ref.ensures.variant ∙ sym (ap is_some got) ∙ some)

pub extend-key-requires-clause-within : goal.extend-key-requires-clause-within
extend-key-requires-clause-within g c =
    value_space g.K.Key.IsKey g.K.Key.bits g.K.Key.bit_width c.args.nodes.now c.args.site c.args.node c.requires.site g.met.K.Key.key_laws.bits_length c.args.entries.now c.args.cells.now c.requires.trie.0 c.requires.trie.1 c.args.bit c.string_of-n.result.0 c.string_of-n.result.1 c.requires.bit c.string_of-n.ensures.short c.string_of-n.ensures.bit c.requires.set

pub new-path-requires-clause-within : goal.new-path-requires-clause-within
new-path-requires-clause-within g c =
    value_space g.K.Key.IsKey g.K.Key.bits g.K.Key.bit_width c.args.nodes.now c.args.site c.args.node c.requires.site g.met.K.Key.key_laws.bits_length c.args.entries.now c.args.cells.now c.requires.trie.0 c.requires.trie.1 c.args.bit c.string_of-n.result.0 c.string_of-n.result.1 c.requires.bit c.string_of-n.ensures.short c.string_of-n.ensures.bit c.requires.set

pub keeps-requires : goal.keeps-requires
keeps-requires g c =
    let got = value_got g.K.Key.IsKey g.K.Key.bits g.K.Key.bit_width c.args.nodes.now c.args.site c.args.node c.requires.site g.met.K.Key.key_laws.bits_length c.args.entries.now c.args.cells.now c.requires.trie.0 c.requires.trie.1 c.args.bit c.string_of-n.result.0 c.string_of-n.result.1 c.requires.bit c.string_of-n.ensures.short c.string_of-n.ensures.bit c.requires.set c.value_seat.result.slot c.at.result.now (ap (λ s. s.slot) c.value_seat.ensures) c.at.ensures.slot in
    let few = short g.K.Key.IsKey g.K.Key.bits g.K.Key.bit_width c.args.nodes.now c.args.site c.args.node c.requires.site g.met.K.Key.key_laws.bits_length c.args.entries.now c.args.cells.now c.requires.trie.0 c.requires.trie.1 c.args.bit c.string_of-n.result.0 c.string_of-n.result.1 c.requires.bit c.string_of-n.ensures.short c.string_of-n.ensures.bit c.requires.set in
    may_ask_here g.K.Key.IsKey g.K.Key.bits g.K.Key.bit_width c.args.nodes.now c.args.site c.args.node c.requires.site g.met.K.Key.key_laws.bits_length c.args.entries.now c.args.cells.now c.requires.trie.0 c.requires.trie.1 c.args.bit c.string_of-n.result.0 c.string_of-n.result.1 c.requires.bit c.string_of-n.ensures.short c.string_of-n.ensures.bit c.requires.set c.new-path.result (c.new-path.ensures ∙ key_taken g.K.Key.IsKey g.K.Key.bits g.K.Key.bit_width c.args.nodes.now c.args.site c.args.node c.requires.site g.met.K.Key.key_laws.bits_length c.args.entries.now c.args.cells.now c.requires.trie.0 c.requires.trie.1 c.args.bit c.string_of-n.result.0 c.string_of-n.result.1 c.requires.bit c.string_of-n.ensures.short c.string_of-n.ensures.bit c.requires.set c.extend-key.result c.extend-key.ensures.value) g.F.Keep.may_return g.F.Keep.accepts c.in-Some.value.now (got ∙ (sym c.as_ref.ensures.value ∙ ap option_copied c.in-Some.is)) c.args.keep.now
    (c.requires.may_ask (digits c.string_of-n.result.0 c.string_of-n.result.1) few c.string_of-n.ensures.bit c.requires.trie.0 c.requires.trie.1)

pub returns-then-keeps-clause-retains : goal.returns-then-keeps-clause-retains
returns-then-keeps-clause-retains g c = λ t few is before trie.
    let got = value_got g.K.Key.IsKey g.K.Key.bits g.K.Key.bit_width c.args.nodes.now c.args.site c.args.node c.requires.site g.met.K.Key.key_laws.bits_length c.args.entries.now c.args.cells.now before trie c.args.bit c.string_of-n.result.0 c.string_of-n.result.1 c.requires.bit c.string_of-n.ensures.short c.string_of-n.ensures.bit c.requires.set c.value_seat.result.slot c.at.result.now (ap (λ s. s.slot) c.value_seat.ensures) c.at.ensures.slot in
    subst (λ u. RetainsTo g.F.Keep.may_return g.F.Keep.accepts g.K.Key.bit_width (take c.args.site.depth (g.K.Key.bits c.args.site.key)) (u ∷ []) c.args.keep.now before c.keeps.new.self c.args.entries.now c.args.nodes.now c.args.cells.now)
    (sym (c.string_of-n.ensures.only t is))
    (stays_here g.K.Key.IsKey g.K.Key.bits g.K.Key.bit_width c.args.nodes.now c.args.site c.args.node c.requires.site g.met.K.Key.key_laws.bits_length c.args.entries.now c.args.cells.now before trie c.args.bit c.string_of-n.result.0 c.string_of-n.result.1 c.requires.bit c.string_of-n.ensures.short c.string_of-n.ensures.bit c.requires.set c.new-path.result (c.new-path.ensures ∙ key_taken g.K.Key.IsKey g.K.Key.bits g.K.Key.bit_width c.args.nodes.now c.args.site c.args.node c.requires.site g.met.K.Key.key_laws.bits_length c.args.entries.now c.args.cells.now before trie c.args.bit c.string_of-n.result.0 c.string_of-n.result.1 c.requires.bit c.string_of-n.ensures.short c.string_of-n.ensures.bit c.requires.set c.extend-key.result c.extend-key.ensures.value) g.F.Keep.may_return g.F.Keep.accepts c.in-Some.value.now (got ∙ (sym c.as_ref.ensures.value ∙ ap option_copied c.in-Some.is)) c.args.keep.now c.keeps.new.self true (c.keeps.ensures.yes c.if-keeps.true) refl)

pub returns-then-keeps-clause-node : goal.returns-then-keeps-clause-node
returns-then-keeps-clause-node g c = c.requires.site

pub returns-then-keeps-clause-preserves : goal.returns-then-keeps-clause-preserves
returns-then-keeps-clause-preserves g c = preserves_none _ c.args.nodes.now c.args.cells.now

pub take_value-found-requires-clause-bit : goal.take_value-found-requires-clause-bit
take_value-found-requires-clause-bit g c =
    c.requires.bit

pub take_value-found-requires-clause-is_there : goal.take_value-found-requires-clause-is_there
take_value-found-requires-clause-is_there g c =
    let long = g.met.K.Key.key_laws.bits_length c.args.site.key c.requires.site.key in
    site_values g.K.Key.IsKey g.K.Key.bits g.K.Key.bit_width c.args.nodes.now c.args.site c.args.node c.requires.site long c.args.entries.now c.args.cells.now c.requires.trie.0 c.requires.trie.1

pub take_value-found-requires-clause-node : goal.take_value-found-requires-clause-node
take_value-found-requires-clause-node g c =
    let long = g.met.K.Key.key_laws.bits_length c.args.site.key c.requires.site.key in
    sym (site_holds g.K.Key.IsKey g.K.Key.bits g.K.Key.bit_width c.args.nodes.now c.args.site c.args.node c.requires.site long c.args.entries.now c.args.cells.now c.requires.trie.0 c.requires.trie.1).0

pub take_value-found-requires-clause-there : goal.take_value-found-requires-clause-there
take_value-found-requires-clause-there g c =
    has_bit-is c.args.node.value_bitmap c.args.bit (let h = c.requires.bit in omega (arith, h)) ∙ c.requires.set

pub overflow_sub-entries : goal.overflow_sub-entries
overflow_sub-entries g c =
    let some = counted_here g.K.Key.IsKey g.K.Key.bits g.K.Key.bit_width c.args.nodes.now c.args.site c.args.node c.requires.site g.met.K.Key.key_laws.bits_length c.args.entries.now c.args.cells.now c.requires.trie.0 c.requires.trie.1 c.args.bit c.string_of-n.result.0 c.string_of-n.result.1 c.requires.bit c.string_of-n.ensures.short c.string_of-n.ensures.bit c.requires.set c.take_value-found.result.0 c.take_value-found.result.1 c.take_value-found.new.nodes c.take_value-found.new.cells c.take_value-found.ensures.value c.take_value-found.ensures.taken in
    omega (arith, some)

pub unreachable-requires-in_default-found : goal.unreachable-requires-in_default-found
unreachable-requires-in_default-found g c =
    let is = taken_here g.K.Key.IsKey g.K.Key.bits g.K.Key.bit_width c.args.nodes.now c.args.site c.args.node c.requires.site g.met.K.Key.key_laws.bits_length c.args.entries.now c.args.cells.now c.requires.trie.0 c.requires.trie.1 c.args.bit c.string_of-n.result.0 c.string_of-n.result.1 c.requires.bit c.string_of-n.ensures.short c.string_of-n.ensures.bit c.requires.set c.take_value-found.result.0 c.take_value-found.result.1 c.take_value-found.new.nodes c.take_value-found.new.cells c.take_value-found.ensures.value c.take_value-found.ensures.taken in
    let some = value_some g.K.Key.IsKey g.K.Key.bits g.K.Key.bit_width c.args.nodes.now c.args.site c.args.node c.requires.site g.met.K.Key.key_laws.bits_length c.args.entries.now c.args.cells.now c.requires.trie.0 c.requires.trie.1 c.args.bit c.string_of-n.result.0 c.string_of-n.result.1 c.requires.bit c.string_of-n.ensures.short c.string_of-n.ensures.bit c.requires.set in
    false≢true (sym (ap is_some (is ∙ c.in_default-found.is)) ∙ some)

pub taken-requires : goal.taken-requires
taken-requires g c =
    let got = value_got g.K.Key.IsKey g.K.Key.bits g.K.Key.bit_width c.args.nodes.now c.args.site c.args.node c.requires.site g.met.K.Key.key_laws.bits_length c.args.entries.now c.args.cells.now c.requires.trie.0 c.requires.trie.1 c.args.bit c.string_of-n.result.0 c.string_of-n.result.1 c.requires.bit c.string_of-n.ensures.short c.string_of-n.ensures.bit c.requires.set c.value_seat.result.slot c.at.result.now (ap (λ s. s.slot) c.value_seat.ensures) c.at.ensures.slot in
    let is = taken_here g.K.Key.IsKey g.K.Key.bits g.K.Key.bit_width c.args.nodes.now c.args.site c.args.node c.requires.site g.met.K.Key.key_laws.bits_length c.args.entries.now c.args.cells.now c.requires.trie.0 c.requires.trie.1 c.args.bit c.string_of-n.result.0 c.string_of-n.result.1 c.requires.bit c.string_of-n.ensures.short c.string_of-n.ensures.bit c.requires.set c.take_value-found.result.0 c.take_value-found.result.1 c.take_value-found.new.nodes c.take_value-found.new.cells c.take_value-found.ensures.value c.take_value-found.ensures.taken in
    let asked : Some c.in-Some.value.now ≡ Some c.in-Some-found.value = sym (got ∙ (sym c.as_ref.ensures.value ∙ ap option_copied c.in-Some.is)) ∙ is ∙ c.in-Some-found.is in (
      c.args.keep.now,
      subst (λ v. g.F.Keep.refuses c.args.keep.now c.new-path.result v c.keeps.new.self)
          (ap (λ o. unwrap_or o c.in-Some-found.value) asked) (c.keeps.ensures.no c.if-keeps.false),
    )

pub returns-clause-retains : goal.returns-clause-retains
returns-clause-retains g c = λ t few is before trie.
    let got = value_got g.K.Key.IsKey g.K.Key.bits g.K.Key.bit_width c.args.nodes.now c.args.site c.args.node c.requires.site g.met.K.Key.key_laws.bits_length c.args.entries.now c.args.cells.now before trie c.args.bit c.string_of-n.result.0 c.string_of-n.result.1 c.requires.bit c.string_of-n.ensures.short c.string_of-n.ensures.bit c.requires.set c.value_seat.result.slot c.at.result.now (ap (λ s. s.slot) c.value_seat.ensures) c.at.ensures.slot in
    let there = taken_here g.K.Key.IsKey g.K.Key.bits g.K.Key.bit_width c.args.nodes.now c.args.site c.args.node c.requires.site g.met.K.Key.key_laws.bits_length c.args.entries.now c.args.cells.now before trie c.args.bit c.string_of-n.result.0 c.string_of-n.result.1 c.requires.bit c.string_of-n.ensures.short c.string_of-n.ensures.bit c.requires.set c.take_value-found.result.0 c.take_value-found.result.1 c.take_value-found.new.nodes c.take_value-found.new.cells c.take_value-found.ensures.value c.take_value-found.ensures.taken in
    let asked : Some c.in-Some.value.now ≡ Some c.in-Some-found.value = sym (got ∙ (sym c.as_ref.ensures.value ∙ ap option_copied c.in-Some.is)) ∙ there ∙ c.in-Some-found.is in
    let no = subst (λ v. g.F.Keep.refuses c.args.keep.now c.new-path.result v c.keeps.new.self)
    (ap (λ o. unwrap_or o c.in-Some-found.value) asked) (c.keeps.ensures.no c.if-keeps.false) in
    let later = trie_goes g.K.Key.IsKey g.K.Key.bits g.K.Key.bit_width c.args.nodes.now c.args.site c.args.node c.requires.site g.met.K.Key.key_laws.bits_length c.args.entries.now c.args.cells.now before trie c.args.bit c.string_of-n.result.0 c.string_of-n.result.1 c.requires.bit c.string_of-n.ensures.short c.string_of-n.ensures.bit c.requires.set c.take_value-found.result.0 c.take_value-found.result.1 c.take_value-found.new.nodes c.take_value-found.new.cells c.take_value-found.ensures.value c.take_value-found.ensures.taken (c.args.entries.now - 1) refl (Grows-none _ _ 24 c.take_value-found.ensures.node_blocks.space c.take_value-found.ensures.node_blocks.tiers) c.take_value-found.ensures.cell_space in
    subst (λ u. RetainsTo g.F.Keep.may_return g.F.Keep.accepts g.K.Key.bit_width (take c.args.site.depth (g.K.Key.bits c.args.site.key)) (u ∷ []) c.args.keep.now before c.taken.new.self (c.args.entries.now - 1) c.take_value-found.new.nodes c.take_value-found.new.cells)
    (sym (c.string_of-n.ensures.only t is))
    (goes_here g.K.Key.IsKey g.K.Key.bits g.K.Key.bit_width c.args.nodes.now c.args.site c.args.node c.requires.site g.met.K.Key.key_laws.bits_length c.args.entries.now c.args.cells.now before trie c.args.bit c.string_of-n.result.0 c.string_of-n.result.1 c.requires.bit c.string_of-n.ensures.short c.string_of-n.ensures.bit c.requires.set c.new-path.result (c.new-path.ensures ∙ key_taken g.K.Key.IsKey g.K.Key.bits g.K.Key.bit_width c.args.nodes.now c.args.site c.args.node c.requires.site g.met.K.Key.key_laws.bits_length c.args.entries.now c.args.cells.now before trie c.args.bit c.string_of-n.result.0 c.string_of-n.result.1 c.requires.bit c.string_of-n.ensures.short c.string_of-n.ensures.bit c.requires.set c.extend-key.result c.extend-key.ensures.value) g.F.Keep.may_return g.F.Keep.accepts c.in-Some-found.value (there ∙ c.in-Some-found.is) c.args.keep.now c.taken.new.self false (c.args.entries.now - 1) c.take_value-found.new.nodes c.take_value-found.new.cells (c.taken.ensures c.args.keep.now no) refl later)

pub returns-clause-node : goal.returns-clause-node
returns-clause-node g c =
    site_here g.K.Key.IsKey g.K.Key.bits g.K.Key.bit_width c.args.nodes.now c.args.site c.args.node c.requires.site g.met.K.Key.key_laws.bits_length c.args.entries.now c.args.cells.now c.requires.trie.0 c.requires.trie.1 c.args.bit c.string_of-n.result.0 c.string_of-n.result.1 c.requires.bit c.string_of-n.ensures.short c.string_of-n.ensures.bit c.requires.set c.take_value-found.result.0 c.take_value-found.result.1 c.take_value-found.new.nodes c.take_value-found.new.cells c.take_value-found.ensures.value c.take_value-found.ensures.taken

pub returns-clause-preserves : goal.returns-clause-preserves
returns-clause-preserves g c =
    record {
      above = above_here g.K.Key.IsKey g.K.Key.bits g.K.Key.bit_width c.args.nodes.now c.args.site c.args.node c.requires.site g.met.K.Key.key_laws.bits_length c.args.entries.now c.args.cells.now c.requires.trie.0 c.requires.trie.1 c.args.bit c.string_of-n.result.0 c.string_of-n.result.1 c.requires.bit c.string_of-n.ensures.short c.string_of-n.ensures.bit c.requires.set c.take_value-found.result.0 c.take_value-found.result.1 c.take_value-found.new.nodes c.take_value-found.new.cells c.take_value-found.ensures.value c.take_value-found.ensures.taken;
      nodes = stays_grown _ _ 24 (Grows-none _ _ 24 c.take_value-found.ensures.node_blocks.space c.take_value-found.ensures.node_blocks.tiers);
      cells = stays_grown _ _ 24 c.take_value-found.ensures.cell_space;
      bounds_growth = c.take_value-found.ensures.bounds_growth;
      blocks = blocks_here g.K.Key.IsKey g.K.Key.bits g.K.Key.bit_width c.args.nodes.now c.args.site c.args.node c.requires.site g.met.K.Key.key_laws.bits_length c.args.entries.now c.args.cells.now c.requires.trie.0 c.requires.trie.1 c.args.bit c.string_of-n.result.0 c.string_of-n.result.1 c.requires.bit c.string_of-n.ensures.short c.string_of-n.ensures.bit c.requires.set c.take_value-found.result.0 c.take_value-found.result.1 c.take_value-found.new.nodes c.take_value-found.new.cells c.take_value-found.ensures.value c.take_value-found.ensures.taken;
    }
