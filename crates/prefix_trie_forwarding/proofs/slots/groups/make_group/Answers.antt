-- The group is filled with the answer before the slot refers to it.
use Rattle.std.proofs.Common.{◌≡◌, ℕ, ◌+◌, ◌*◌, ◌^◌, ◌<◌, ◌≤◌, length, slice_index, slice_set, refl, subst, arith}
use Rattle.prefix_trie_forwarding.specs.Walks.{AgreesOutside}
use Rattle.prefix_trie_forwarding.proofs.Frees.{set_here, set_others}
use Rattle.prefix_trie_forwarding.proofs.Making.{made_free, made_groups, made_inside, made_reached, made_same, made_slots}
use Rattle.prefix_trie_forwarding.proofs.slots.groups.make_group.Goals as goal

pub fill_group-requires : goal.fill_group-requires
fill_group-requires c = omega (arith, c.requires.sizes, c.requires.known, c.power-root.ensures)

pub returns-clause-slots : goal.returns-clause-slots
returns-clause-slots c =
    let xs = c.fill_group.new.slots in
    let root = c.power-root.result in
    let g = c.args.group in
    let at = c.args.at in
    let inside : at < length xs = omega (arith, c.requires.at, c.fill_group.auto.slots) in
    made_slots root c.args.groups g at (slice_index c.args.slots.now at) (slice_index c.args.slots.now) (slice_index xs) (slice_index (slice_set xs at (2147483648 + g)))
    c.requires.slots c.requires.unused c.requires.known c.fill_group.ensures.outside c.fill_group.ensures.inside refl c.requires.answer (set_here xs at (2147483648 + g) inside) (set_others xs at (2147483648 + g) inside)

pub returns-clause-link : goal.returns-clause-link
returns-clause-link c =
    let xs = c.fill_group.new.slots in
    set_here xs c.args.at (2147483648 + c.args.group) (omega (arith, c.requires.at, c.fill_group.auto.slots))

pub returns-clause-free : goal.returns-clause-free
returns-clause-free c =
    let xs = c.fill_group.new.slots in
    let root = c.power-root.result in
    let g = c.args.group in
    let at = c.args.at in
    let inside : at < length xs = omega (arith, c.requires.at, c.fill_group.auto.slots) in
    made_free root c.args.groups g at (slice_index c.args.slots.now at) (slice_index c.args.slots.now) (slice_index xs) (slice_index (slice_set xs at (2147483648 + g)))
    c.requires.slots c.requires.unused c.requires.known c.fill_group.ensures.outside c.fill_group.ensures.inside refl c.requires.answer (set_here xs at (2147483648 + g) inside) (set_others xs at (2147483648 + g) inside)

pub returns-clause-same : goal.returns-clause-same
returns-clause-same c = λ levels b n k ib r.
    let xs = c.fill_group.new.slots in
    let g = c.args.group in
    let at = c.args.at in
    let inside : at < length xs = omega (arith, c.requires.at, c.fill_group.auto.slots) in
    let root = 2 ^ c.args.root_bits in
    let s0 = slice_index c.args.slots.now in
    let s = slice_index xs in
    made_same (2 ^ c.args.root_bits) c.args.groups g at (slice_index c.args.slots.now at) s0 s (slice_index (slice_set xs at (2147483648 + g)))
    c.requires.slots c.requires.unused c.requires.known (subst (λ z. AgreesOutside (z + 256 * g) (z + 256 * g + 256) s0 s) c.power-root.ensures c.fill_group.ensures.outside)
    (subst (λ z. (y : ℕ) → z + 256 * g ≤ y → y < z + 256 * g + 256 → s y ≡ slice_index c.args.slots.now at) c.power-root.ensures c.fill_group.ensures.inside)
    refl c.requires.answer (set_here xs at (2147483648 + g) inside) (set_others xs at (2147483648 + g) inside) levels b n k ib r

pub returns-clause-gains : goal.returns-clause-gains
returns-clause-gains c = λ levels b n k ib r.
    let xs = c.fill_group.new.slots in
    let g = c.args.group in
    let at = c.args.at in
    let inside : at < length xs = omega (arith, c.requires.at, c.fill_group.auto.slots) in
    let root = 2 ^ c.args.root_bits in
    let s0 = slice_index c.args.slots.now in
    let s = slice_index xs in
    made_groups (2 ^ c.args.root_bits) c.args.groups g at (slice_index c.args.slots.now at) s0 s (slice_index (slice_set xs at (2147483648 + g)))
    c.requires.slots c.requires.unused c.requires.known (subst (λ z. AgreesOutside (z + 256 * g) (z + 256 * g + 256) s0 s) c.power-root.ensures c.fill_group.ensures.outside)
    (subst (λ z. (y : ℕ) → z + 256 * g ≤ y → y < z + 256 * g + 256 → s y ≡ slice_index c.args.slots.now at) c.power-root.ensures c.fill_group.ensures.inside)
    refl c.requires.answer (set_here xs at (2147483648 + g) inside) (set_others xs at (2147483648 + g) inside) levels b n k ib r

pub returns-clause-reached : goal.returns-clause-reached
returns-clause-reached c = λ levels b n k ib r.
    let xs = c.fill_group.new.slots in
    let g = c.args.group in
    let at = c.args.at in
    let inside : at < length xs = omega (arith, c.requires.at, c.fill_group.auto.slots) in
    let root = 2 ^ c.args.root_bits in
    let s0 = slice_index c.args.slots.now in
    let s = slice_index xs in
    made_reached (2 ^ c.args.root_bits) c.args.groups g at (slice_index c.args.slots.now at) s0 s (slice_index (slice_set xs at (2147483648 + g)))
    c.requires.slots c.requires.unused c.requires.known (subst (λ z. AgreesOutside (z + 256 * g) (z + 256 * g + 256) s0 s) c.power-root.ensures c.fill_group.ensures.outside)
    (subst (λ z. (y : ℕ) → z + 256 * g ≤ y → y < z + 256 * g + 256 → s y ≡ slice_index c.args.slots.now at) c.power-root.ensures c.fill_group.ensures.inside)
    refl c.requires.answer (set_here xs at (2147483648 + g) inside) (set_others xs at (2147483648 + g) inside) levels b n k ib r

pub returns-clause-inside : goal.returns-clause-inside
returns-clause-inside c = λ levels b n k ib r.
    let xs = c.fill_group.new.slots in
    let g = c.args.group in
    let at = c.args.at in
    let inside : at < length xs = omega (arith, c.requires.at, c.fill_group.auto.slots) in
    let root = 2 ^ c.args.root_bits in
    let s0 = slice_index c.args.slots.now in
    let s = slice_index xs in
    made_inside (2 ^ c.args.root_bits) c.args.groups g at (slice_index c.args.slots.now at) s0 s (slice_index (slice_set xs at (2147483648 + g)))
    c.requires.slots c.requires.unused c.requires.known (subst (λ z. AgreesOutside (z + 256 * g) (z + 256 * g + 256) s0 s) c.power-root.ensures c.fill_group.ensures.outside)
    (subst (λ z. (y : ℕ) → z + 256 * g ≤ y → y < z + 256 * g + 256 → s y ≡ slice_index c.args.slots.now at) c.power-root.ensures c.fill_group.ensures.inside)
    refl c.requires.answer (set_here xs at (2147483648 + g) inside) (set_others xs at (2147483648 + g) inside) levels b n k ib r
