-- A look at a search's node gives the longest match down to that node, and the next node of the path unless it is the last.
use Rattle.prefix_trie_table.proofs.Prelude.{take, arith, reached_by, ◌/◌, ap}
use Rattle.prefix_trie_table.proofs.Lookup.Bulk.{match_few, found_now}
use Rattle.prefix_trie_table.proofs.Lookup.NodeMatches.{along_is, no_last_bit}
use Rattle.prefix_trie_table.proofs.Lookup.SearchPaths.{step_left}
use Rattle.prefix_trie_table.proofs.table.bulk.look.Goals as goal

pub after-rest-requires : goal.after-rest-requires
after-rest-requires g c = c.requires.along.2.whole

pub next_slot-requires : goal.next_slot-requires
next_slot-requires g c = step_left c.args.path.now _ c.args.level _ c.after-rest.ensures (ap (λ n. n / 5) c.len-last.ensures.len)

pub longest_in-requires-clause-shallow : goal.longest_in-requires-clause-shallow
longest_in-requires-clause-shallow g c =
    let whole = c.requires.along.2.whole in
    omega (arith, whole, c.len-last.ensures.len, c.len-last.ensures.short)

pub longest_in-requires-clause-few : goal.longest_in-requires-clause-few
longest_in-requires-clause-few g c =
    let s = c.requires.along.1 in
    no_last_bit c.args.path.now (reached_by c.args.descent c.args.node c.args.level) c.requires.along.0 c.requires.along.2 s.0 s.1

pub longer-found-requires : goal.longer-found-requires
longer-found-requires g c =
    let q = c.args.path.now in
    let here = reached_by c.args.descent c.args.node c.args.level in
    let s = c.requires.along.1 in
    let at = c.requires.along.2 in
    record {
      few = match_few s.0.reading q _ _ c.longest_in.result
          (c.longest_in.ensures q s.0.reading at.whole (ap (take 4) c.after-rest.ensures) (along_is q here c.requires.along.0 at s.0.reading s.0.paths s.0.hold));
    }

pub returns-clause-found : goal.returns-clause-found
returns-clause-found g c = λ v at so_far.
    found_now c.args.path.now (reached_by c.args.descent c.args.node c.args.level) v at c.args.descent.best c.longer-found.result c.longest_in.result so_far
    (λ nodes. c.longest_in.ensures c.args.path.now nodes at.whole (ap (take 4) c.after-rest.ensures)) c.longer-found.ensures

pub returns-clause-next : goal.returns-clause-next
returns-clause-next g c = λ v at. c.next_slot.ensures c.args.path.now v at c.after-rest.ensures (ap (λ n. n / 5) c.len-last.ensures.len)
