-- Emptying a string's own node and then pruning its path removes the part; if that node is missing, there is no part.
use Rattle.prefix_trie_table.proofs.Prelude.{refl, sym, subst, AsksUpTo}
use Rattle.prefix_trie_table.proofs.Removal.RemovedParts.{some_end, part_taken, part_preserved, part_missing, part_unlisted}
use Rattle.prefix_trie_table.proofs.Retain.CurrentPlaces.{preserves_none}
use Rattle.prefix_trie_table.proofs.table.part_removal.remove_part.Goals as goal

pub returns-in_default-clause-removed : goal.returns-in_default-clause-removed
returns-in_default-clause-removed g c = λ s trie. part_missing g.K.Key.bit_width c.args.path c.args.nodes.now c.args.cells.now c.args.entries.now s trie c.in_default.ensures.missing

pub returns-in_default-clause-up_to : goal.returns-in_default-clause-up_to
returns-in_default-clause-up_to g c = λ s trie.
    subst (λ es. AsksUpTo g.F.Keep.may_return c.args.keep.now es c.args.keep.now)
    (sym (part_unlisted g.K.Key.bit_width c.args.path c.args.nodes.now c.args.cells.now c.args.entries.now s trie c.in_default.ensures.missing)) refl

pub returns-in_default-clause-preserves : goal.returns-in_default-clause-preserves
returns-in_default-clause-preserves g c = preserves_none _ c.args.nodes.now c.args.cells.now

pub prune_up-requires : goal.prune_up-requires
prune_up-requires g c =
    let found = c.in-Some.ensures.found in
    let trie = c.requires.trie in
    let end = some_end g.K.Key.bit_width c.args.path c.args.nodes.now c.empty_part-left.new.nodes c.args.cells.now c.empty_part-left.new.cells c.args.entries.now c.empty_part-left.new.entries trie.0 trie.1
    (c.empty_part-left.ensures.emptied trie.0 trie.1).trie c.in-Some.here.level found.0.last c.empty_part-left.ensures.preserves c.deref.result.now _ c.deref.ensures.0 found.1
    c.empty_part-left.result c.empty_part-left.ensures.node in
    record { is_there = end }

pub returns-clause-removed : goal.returns-clause-removed
returns-clause-removed g c = λ s trie.
    let found = c.in-Some.ensures.found in
    part_taken g.K.Key.bit_width c.args.path c.args.nodes.now c.empty_part-left.new.nodes c.args.cells.now c.empty_part-left.new.cells c.args.entries.now c.empty_part-left.new.entries s trie
    (c.empty_part-left.ensures.emptied s trie).trie c.in-Some.here.level found.0.last c.empty_part-left.ensures.preserves c.deref.result.now _ c.deref.ensures.0 found.1
    c.empty_part-left.result c.empty_part-left.ensures.node c.prune_up.new.nodes c.prune_up.ensures.space c.prune_up.ensures.pruned

pub returns-clause-preserves : goal.returns-clause-preserves
returns-clause-preserves g c =
    let found = c.in-Some.ensures.found in
    let trie = c.requires.trie in
    part_preserved g.K.Key.bit_width c.args.path c.args.nodes.now c.empty_part-left.new.nodes c.args.cells.now c.empty_part-left.new.cells c.args.entries.now c.empty_part-left.new.entries trie.0 trie.1
    (c.empty_part-left.ensures.emptied trie.0 trie.1).trie c.in-Some.here.level found.0.last c.empty_part-left.ensures.preserves c.deref.result.now _ c.deref.ensures.0 found.1
    c.empty_part-left.result c.empty_part-left.ensures.node c.prune_up.new.nodes c.prune_up.ensures.space c.prune_up.ensures.pruned c.prune_up.ensures.bounds_growth

pub returns-clause-up_to : goal.returns-clause-up_to
returns-clause-up_to g c = λ s trie. (c.empty_part-left.ensures.emptied s trie).up_to
