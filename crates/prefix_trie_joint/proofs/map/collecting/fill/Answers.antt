-- The loop of `from_iter`: the map has the items inserted so far, and an error is that of the item that was refused.
use Rattle.std.proofs.Common.{refl, [], ◌∷◌, ◌++◌, ◌+◌, ◌-◌, ◌*◌, ◌^◌, ◌<◌, length}
use Rattle.std.proofs.iter.Next.{Yields-more}
use Rattle.std.proofs.lemmas.Result.{err_from_is_err_and}
use Rattle.prefix_trie_joint.specs.Changes.{maps_of}
use Rattle.prefix_trie_joint.specs.Collected.{AreAfter}
use Rattle.prefix_trie_joint.specs.Joined.{entries_of}
use Rattle.prefix_trie_joint.specs.Networks.{ip_path}
use Rattle.prefix_trie_joint.specs.declared.prefix.IpPrefix.{IpPrefix}
use Rattle.prefix_trie_joint.proofs.CollectedItems.{one_more, put_more}
use Rattle.prefix_trie_joint.proofs.map.collecting.fill.Goals as goal

pub loop-prefix-init : goal.loop-prefix-init
loop-prefix-init g c = (refl, c.requires.new)

pub loop-prefix-init-derived : goal.loop-prefix-init-derived
loop-prefix-init-derived g c = c.requires.ends c.into_iter-prefix-iterator.result c.into_iter-prefix-iterator.ensures.into_iter_gives

pub next-requires : goal.next-requires
next-requires g c = c.loop-prefix.iterator.0

pub loop-prefix-preserved : goal.loop-prefix-preserved
loop-prefix-preserved g c =
    let xs = c.loop-prefix.yielded in
    let x : IpPrefix × g.row.T.Denot = (c.in-Some.prefix, c.in-Some.value) in
    let e = c.in_ok-put.ensures in (
      put_more ip_path (entries_of c.args.map.now) (entries_of c.loop-prefix.map) (entries_of c.put.new.map) xs x c.loop-prefix.invariant.0 e.entries,
      one_more (λ n. AreAfter n (maps_of c.put.new.map)) xs x (e.after (length xs) c.loop-prefix.invariant.1),
    )

pub loop-prefix-preserved-derived : goal.loop-prefix-preserved-derived
loop-prefix-preserved-derived g c = let went = c.in-Some.ensures.goes.on c.loop-prefix.iterator.1 in (went.0, went.1)

pub loop-prefix-smaller : goal.loop-prefix-smaller
loop-prefix-smaller g c = (c.in-Some.ensures.goes.on c.loop-prefix.iterator.1).2

-- the item that was refused was taken too
pub returns-in_err-put : goal.returns-in_err-put
returns-in_err-put g c =
    let it = c.into_iter-prefix-iterator in
    let xs = c.loop-prefix.yielded in
    let x : IpPrefix × g.row.T.Denot = (c.in-Some.prefix, c.in-Some.value) in
    let more = Yields-more g.I.IntoIter.Iterator.next_gives it.result xs c.loop-prefix.prefix-iterator x c.next.new.self c.loop-prefix.yielded_by c.in-Some.ensures.steps in
    let p = err_from_is_err_and c.from_residual.result c.from_residual.ensures.1 in
    rw (p.1, p.2) (record {
      ok = tt;
      range = λ range. (
        it.result,
        xs ++ x ∷ [],
        c.next.new.self,
        it.ensures.into_iter_gives,
        more,
        one_more (λ n. 2 ^ 32 - 1 < 1 + 56 * n) xs x (c.in_err-put.ensures.range range (length xs) c.loop-prefix.invariant.1),
      );
    })

pub returns-clause-ok : goal.returns-clause-ok
returns-clause-ok g c =
    let it = c.into_iter-prefix-iterator in
    (it.result, c.loop-prefix.yielded, it.ensures.into_iter_gives, (c.next.new.self, (c.loop-prefix.prefix-iterator, c.loop-prefix.yielded_by, c.in-None.ensures.steps)), c.loop-prefix.invariant.0, c.loop-prefix.invariant.1)
