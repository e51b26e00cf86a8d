-- The answer to an address is that of its longest match.
use Rattle.std.proofs.Common.{◌≡◌, ◌∙◌, length, subst, sym, arith}
use Rattle.prefix_trie_bits.specs.Calls.Entries.{AreWithin}
use Rattle.prefix_trie_forwarding.proofs.Following.{follows_address}
use Rattle.prefix_trie_forwarding.proofs.Reading.{first_address}
use Rattle.prefix_trie_forwarding.proofs.table.ForwardingTable.answer_counted.Goals as goal

pub returns-clause-answer : goal.returns-clause-answer
returns-clause-answer g c =
    let t = c.args.self.now in
    let b = g.P.R.Key.bits c.args.address in
    let long : length (g.P.R.Key.bits c.args.address) ≡ g.P.R.Key.bit_width = g.met.P.Prefix.prefix_laws.keys.bits_length c.args.address c.is_key.ensures.key in
    c.find_counted.ensures.answer ∙ follows_address c.lookup_laws.ensures t.slots.root_bits t.slots.levels t.map.entries t.slots.items.items (g.P.R.Key.bits c.args.address) t.follows
    (subst (λ n. AreWithin n t.map.entries) (sym long) c.len.ensures.whole.is_map.keys_within) (omega (arith, long, t.divided.reads))

pub returns-clause-small : goal.returns-clause-small
returns-clause-small g c =
    let t = c.args.self.now in
    let long : length (g.P.R.Key.bits c.args.address) ≡ g.P.R.Key.bit_width = g.met.P.Prefix.prefix_laws.keys.bits_length c.args.address c.is_key.ensures.key in
    let ia = first_address (g.P.R.Key.bits c.args.address) t.slots.root_bits t.slots.levels (omega (arith, long, t.divided.reads)) in
    let small = t.slots.sound.values _ ia in
    omega (arith, small, c.find_counted.ensures.answer)

pub returns-clause-reads : goal.returns-clause-reads
returns-clause-reads g c =
    let d = c.args.self.now.divided in
    omega (arith, c.find_counted.ensures.reads, d.ends, d.within)
