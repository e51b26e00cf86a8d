-- Each of the first `count` searches has reached a slot inside the array, so its node can be read.
use Rattle.prefix_trie_table.proofs.Prelude.{◌<◌, length, subst, arith, get_or-take, length-take-le}
use Rattle.prefix_trie_table.specs.Bulk.{slot_of}
use Rattle.prefix_trie_table.proofs.table.bulk.read_each.Goals as goal

pub visit-requires : goal.visit-requires
visit-requires g c =
    let descents = c.args.descents.now in
    let less = c.loop-j-test.true in
    subst (λ w. slot_of w < length c.args.nodes.now.slots) (get_or-take c.args.count descents c.loop-j.j _ less)
    (c.requires.inside c.loop-j.j _ (omega (arith, less, length-take-le c.args.count descents c.requires.count.0)))
