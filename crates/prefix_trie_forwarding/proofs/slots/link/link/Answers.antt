-- Each level that is missing gets a free group, filled with the answer before it.
use Rattle.std.proofs.Common.{◌≡◌, ◌∙◌, ◌+◌, ◌*◌, ◌-◌, ◌^◌, ◌≤◌, [], ◌∷◌, ◌++◌, length, refl, sym, subst, arith, inr, slice_index}
use Rattle.prefix_trie_forwarding.specs.Counts.{IsCounted}
use Rattle.prefix_trie_forwarding.specs.Keys.{first_of}
use Rattle.prefix_trie_forwarding.specs.Walks.{AreFree, upper}
use Rattle.prefix_trie_forwarding.proofs.Linking.{has_group_level, linking_end, linking_more, linking_none, linking_path, linking_reached, linking_start, linking_step}
use Rattle.prefix_trie_forwarding.proofs.Counting.{count_gained}
use Rattle.prefix_trie_forwarding.proofs.Making.{free_last}
use Rattle.prefix_trie_forwarding.proofs.Prefixes.{reached_inside}
use Rattle.prefix_trie_forwarding.proofs.Reading.{first_address}
use Rattle.prefix_trie_forwarding.proofs.slots.link.link.Goals as goal

pub loop-depth-init : goal.loop-depth-init
loop-depth-init g c = record {
  set = c.requires.set;
  made = refl;
  spent = refl;
  enough = c.requires.enough;
  linking = linking_start c.args.root_bits c.args.levels (first_of (c.args.root_bits + 8 * c.args.levels) (g.K.Key.bits c.args.first)) c.args.len (slice_index c.args.slots.now) c.args.end c.requires.end;
  counted = c.requires.counted;
}

pub make_group-requires-clause-at : goal.make_group-requires-clause-at
make_group-requires-clause-at g c =
    let i = c.loop-depth.invariant in
    let long : length (g.K.Key.bits c.args.first) ≡ g.K.Key.bit_width = g.met.K.Key.key_laws.bits_length c.args.first c.is_key.ensures.key in
    let b = first_of (c.args.root_bits + 8 * c.args.levels) (g.K.Key.bits c.args.first) in
    let s = slice_index c.loop-depth.slots in
    let ib = first_address (g.K.Key.bits c.args.first) c.args.root_bits c.args.levels (omega (arith, long, c.requires.divided.reads)) in
    let fits : c.args.len ≤ c.args.root_bits + 8 * c.args.levels = omega (arith, c.requires.len, c.requires.divided.reads) in
    let free = c.take-group.new.self.free.items in
    let group = c.take-group.result in
    let last = free_last c.loop-depth.groups.made s c.loop-depth.groups.free.items free group i.set.free_are c.take-group.ensures.free in
    let inside = reached_inside (2 ^ c.args.root_bits) c.args.levels c.loop-depth.groups.made s b i.linking.steps i.linking.left c.loop-depth.at i.set.slots_are ib i.linking.reached in
    omega (arith, inside, i.set.sizes)

pub make_group-requires-clause-known : goal.make_group-requires-clause-known
make_group-requires-clause-known g c =
    let i = c.loop-depth.invariant in
    let long : length (g.K.Key.bits c.args.first) ≡ g.K.Key.bit_width = g.met.K.Key.key_laws.bits_length c.args.first c.is_key.ensures.key in
    let b = first_of (c.args.root_bits + 8 * c.args.levels) (g.K.Key.bits c.args.first) in
    let s = slice_index c.loop-depth.slots in
    let ib = first_address (g.K.Key.bits c.args.first) c.args.root_bits c.args.levels (omega (arith, long, c.requires.divided.reads)) in
    let fits : c.args.len ≤ c.args.root_bits + 8 * c.args.levels = omega (arith, c.requires.len, c.requires.divided.reads) in
    let free = c.take-group.new.self.free.items in
    let group = c.take-group.result in
    let last = free_last c.loop-depth.groups.made s c.loop-depth.groups.free.items free group i.set.free_are c.take-group.ensures.free in
    omega (arith, last.known, c.take-group.ensures.made)

pub make_group-requires-clause-unused : goal.make_group-requires-clause-unused
make_group-requires-clause-unused g c =
    let i = c.loop-depth.invariant in
    let long : length (g.K.Key.bits c.args.first) ≡ g.K.Key.bit_width = g.met.K.Key.key_laws.bits_length c.args.first c.is_key.ensures.key in
    let b = first_of (c.args.root_bits + 8 * c.args.levels) (g.K.Key.bits c.args.first) in
    let s = slice_index c.loop-depth.slots in
    let ib = first_address (g.K.Key.bits c.args.first) c.args.root_bits c.args.levels (omega (arith, long, c.requires.divided.reads)) in
    let fits : c.args.len ≤ c.args.root_bits + 8 * c.args.levels = omega (arith, c.requires.len, c.requires.divided.reads) in
    let free = c.take-group.new.self.free.items in
    let group = c.take-group.result in
    let last = free_last c.loop-depth.groups.made s c.loop-depth.groups.free.items free group i.set.free_are c.take-group.ensures.free in
    last.unused

pub loop-depth-preserved : goal.loop-depth-preserved
loop-depth-preserved g c =
    let i = c.loop-depth.invariant in
    let long : length (g.K.Key.bits c.args.first) ≡ g.K.Key.bit_width = g.met.K.Key.key_laws.bits_length c.args.first c.is_key.ensures.key in
    let b = first_of (c.args.root_bits + 8 * c.args.levels) (g.K.Key.bits c.args.first) in
    let s = slice_index c.loop-depth.slots in
    let ib = first_address (g.K.Key.bits c.args.first) c.args.root_bits c.args.levels (omega (arith, long, c.requires.divided.reads)) in
    let fits : c.args.len ≤ c.args.root_bits + 8 * c.args.levels = omega (arith, c.requires.len, c.requires.divided.reads) in
    let free = c.take-group.new.self.free.items in
    let group = c.take-group.result in
    let last = free_last c.loop-depth.groups.made s c.loop-depth.groups.free.items free group i.set.free_are c.take-group.ensures.free in
    let made = c.take-group.ensures.made in
    let r = linking_reached c.args.root_bits c.args.levels b c.args.len c.loop-depth.depth c.loop-depth.at (slice_index c.args.slots.now) s i.linking c.loop-depth-test.true fits in
    let some = linking_more c.args.root_bits c.args.levels b c.args.len c.loop-depth.depth c.loop-depth.at (slice_index c.args.slots.now) s i.linking c.loop-depth-test.true fits in
    let e = c.make_group.ensures in
    let to = c.next_slot-at.ensures (upper (i.linking.left - 1) b) (c.byte_at.ensures.part (c.args.root_bits + 8 * c.args.levels) (i.linking.left - 1) c.requires.divided.reads (omega (arith, i.linking.here, some))) in
    let u = slice_index c.make_group.new.slots in
    let gain = e.gains c.args.levels b i.linking.steps (i.linking.left - 1) ib r in
    let total = has_group_level (2 ^ c.args.root_bits) c.args.levels u b (i.linking.left - 1) ((gain b (i.linking.left - 1) ib).1 (inr (refl, refl))) in
    record {
      set = record {
        sizes = omega (arith, i.set.sizes, c.make_group.auto.slots, made);
        small = omega (arith, i.set.small, made);
        within = omega (arith, i.set.within, last.longer, made);
        slots_are = e.slots;
        free_are = e.free free (subst (λ n. AreFree n s (free ++ group ∷ [])) (sym made) last.frees);
      };
      made = made ∙ i.made;
      spent = omega (arith, i.spent, last.longer);
      enough = omega (arith, i.enough, last.longer);
      linking = linking_step c.args.root_bits c.args.levels b c.args.len c.loop-depth.depth c.loop-depth.at (slice_index c.args.slots.now) s i.linking u group c.next_slot-at.result c.loop-depth-test.true fits ib (e.same c.args.levels b i.linking.steps (i.linking.left - 1) ib r) gain e.link
          (e.reached c.args.levels b i.linking.steps (i.linking.left - 1) ib r) to (e.inside c.args.levels b i.linking.steps (i.linking.left - 1) ib r);
      counted =
          subst (λ n. IsCounted c.args.root_bits c.args.levels n u free) (sym made)
          (count_gained c.args.root_bits c.args.levels s u b (i.linking.left - 1) c.loop-depth.groups.made c.loop-depth.groups.free.items free ib total gain
          (linking_none c.args.root_bits c.args.levels b c.args.len c.loop-depth.depth c.loop-depth.at (slice_index c.args.slots.now) s i.linking c.loop-depth-test.true fits) last.longer i.counted);
    }

pub returns-clause-gains : goal.returns-clause-gains
returns-clause-gains g c =
    let fits : c.args.len ≤ c.args.root_bits + 8 * c.args.levels = omega (arith, c.requires.len, c.requires.divided.reads) in
    linking_end c.args.root_bits c.args.levels (first_of (c.args.root_bits + 8 * c.args.levels) (g.K.Key.bits c.args.first)) c.args.len c.loop-depth.depth c.loop-depth.at (slice_index c.args.slots.now) (slice_index c.loop-depth.slots) c.loop-depth.invariant.linking c.loop-depth-test.false fits

pub returns-clause-path : goal.returns-clause-path
returns-clause-path g c =
    linking_path c.args.root_bits c.args.levels (first_of (c.args.root_bits + 8 * c.args.levels) (g.K.Key.bits c.args.first)) c.args.len c.loop-depth.depth c.loop-depth.at (slice_index c.args.slots.now) (slice_index c.loop-depth.slots) c.loop-depth.invariant.linking c.loop-depth-test.false

pub returns-clause-taken : goal.returns-clause-taken
returns-clause-taken g c = omega (arith, c.loop-depth.invariant.spent, c.loop-depth-test.false)
