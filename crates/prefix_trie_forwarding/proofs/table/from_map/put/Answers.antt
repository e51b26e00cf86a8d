-- The answers and groups follow the entries with one network more.
use Rattle.std.proofs.Common.{◌≡◌, ◌+◌, ◌*◌, ◌≤◌, length, arith}
use Rattle.prefix_trie_bits.specs.Keys.{path_length, path_within}
use Rattle.prefix_trie_bits.specs.Model.Entries.{no_entries}
use Rattle.prefix_trie_forwarding.specs.Keys.{first_of}
use Rattle.prefix_trie_forwarding.proofs.Following.{follows_same}
use Rattle.prefix_trie_forwarding.proofs.Networks.{first_path}
use Rattle.prefix_trie_forwarding.proofs.Tables.{aligned, follows_inserted, follows_points, groups_inserted}
use Rattle.prefix_trie_forwarding.specs.declared.hop.Hop.{Hop}
use Rattle.prefix_trie_forwarding.proofs.table.from_map.put.Goals as goal

pub change-requires-clause-aligned : goal.change-requires-clause-aligned
change-requires-clause-aligned g c =
    let s = c.link.new.self in
    let p = g.P.Prefix.path c.args.prefix.now in
    let long : length (g.P.Prefix.path c.args.prefix.now) ≡ g.P.Prefix.len_of c.args.prefix.now = path_length g.met.P.Prefix.prefix_laws c.args.prefix.now c.requires.fits in
    let within = path_within g.met.P.Prefix.prefix_laws c.args.prefix.now c.requires.fits in
    let reads : g.P.R.Key.bit_width ≤ c.link.new.self.root_bits + 8 * c.link.new.self.levels =
    omega (arith, c.requires.divided.reads, c.prepare.ensures.root, c.prepare.ensures.levels, c.link.ensures.root, c.link.ensures.levels) in
    aligned s.root_bits s.levels (no_entries {T = Hop}) p (omega (arith, within, reads)) (first_of (s.root_bits + 8 * s.levels) (g.P.R.Key.bits c.mask-first.result)) c.from-len.result
    (first_path g.met.P.Prefix.prefix_laws c.args.prefix.now c.requires.fits (s.root_bits + 8 * s.levels) c.mask-first.result reads c.mask-first.ensures.value)
    (omega (arith, c.from-len.ensures, c.prefix_len.ensures, long))

pub returns-clause-follows : goal.returns-clause-follows
returns-clause-follows g c = λ m follows.
    let t = c.args.slots.now in
    let r = t.root_bits in
    let l = t.levels in
    let p = g.P.Prefix.path c.args.prefix.now in
    let kept = rw (c.prepare.ensures.root, c.prepare.ensures.levels) at c.link.ensures.same in
    let changed = rw (c.link.ensures.root, c.link.ensures.levels, c.prepare.ensures.root, c.prepare.ensures.levels) at c.change.ensures.changed in
    let long : length (g.P.Prefix.path c.args.prefix.now) ≡ g.P.Prefix.len_of c.args.prefix.now = path_length g.met.P.Prefix.prefix_laws c.args.prefix.now c.requires.fits in
    let within = path_within g.met.P.Prefix.prefix_laws c.args.prefix.now c.requires.fits in
    let fits : length (g.P.Prefix.path c.args.prefix.now) ≤ t.root_bits + 8 * t.levels = omega (arith, within, c.requires.divided.reads) in
    let b = first_of (t.root_bits + 8 * t.levels) (g.P.R.Key.bits c.mask-first.result) in
    let b_is = first_path g.met.P.Prefix.prefix_laws c.args.prefix.now c.requires.fits (t.root_bits + 8 * t.levels) c.mask-first.result c.requires.divided.reads c.mask-first.ensures.value in
    let len_is : c.from-len.result ≡ length (g.P.Prefix.path c.args.prefix.now) = omega (arith, c.from-len.ensures, c.prefix_len.ensures, long) in
    let i = c.insertion in
    follows_inserted r l m p fits b c.from-len.result b_is len_is c.lookup_laws.ensures c.link.new.self.items.items c.change.new.self.items.items i.result.least i.result.most i.result.to changed
    (follows_same r l m c.prepare.new.self.items.items c.link.new.self.items.items (follows_points r l t.items.items c.prepare.new.self.items.items m c.prepare.ensures.points follows) kept)
    c.args.hop i.ensures.least i.ensures.most i.ensures.to

pub returns-clause-groups : goal.returns-clause-groups
returns-clause-groups g c = λ m has.
    let t = c.args.slots.now in
    let r = t.root_bits in
    let l = t.levels in
    let p = g.P.Prefix.path c.args.prefix.now in
    let gains = rw (c.prepare.ensures.root, c.prepare.ensures.levels) at c.link.ensures.gains in
    let keeps = rw (c.link.ensures.root, c.link.ensures.levels, c.prepare.ensures.root, c.prepare.ensures.levels) at c.change.ensures.groups in
    let long : length (g.P.Prefix.path c.args.prefix.now) ≡ g.P.Prefix.len_of c.args.prefix.now = path_length g.met.P.Prefix.prefix_laws c.args.prefix.now c.requires.fits in
    let within = path_within g.met.P.Prefix.prefix_laws c.args.prefix.now c.requires.fits in
    let fits : length (g.P.Prefix.path c.args.prefix.now) ≤ t.root_bits + 8 * t.levels = omega (arith, within, c.requires.divided.reads) in
    let b = first_of (t.root_bits + 8 * t.levels) (g.P.R.Key.bits c.mask-first.result) in
    let b_is = first_path g.met.P.Prefix.prefix_laws c.args.prefix.now c.requires.fits (t.root_bits + 8 * t.levels) c.mask-first.result c.requires.divided.reads c.mask-first.ensures.value in
    let len_is : c.from-len.result ≡ length (g.P.Prefix.path c.args.prefix.now) = omega (arith, c.from-len.ensures, c.prefix_len.ensures, long) in
    groups_inserted r l m p fits b c.from-len.result b_is len_is c.stored_laws.ensures c.args.hop t.items.items c.prepare.new.self.items.items c.link.new.self.items.items c.change.new.self.items.items has
    c.prepare.ensures.points gains keeps
