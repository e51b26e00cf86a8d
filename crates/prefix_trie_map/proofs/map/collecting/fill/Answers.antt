-- The loop of `from_iter`: the map has the items inserted so far, and an error is that of the item that was refused.
use Rattle.prefix_trie_map.proofs.Prelude.{Some, [], ◌∷◌, ◌++◌, refl, arith, Yields-more, All-pop, err_from_is_err_and}
use Rattle.prefix_trie_map.proofs.Collected.{puts_more, may_pass}
use Rattle.prefix_trie_map.proofs.map.collecting.fill.Goals as goal

pub loop-prefix-init : goal.loop-prefix-init
loop-prefix-init g c = record { entries = refl; tidy = λ was. was; limit = refl; node_slots = omega arith; cell_slots = omega arith }

pub loop-prefix-init-derived : goal.loop-prefix-init-derived
loop-prefix-init-derived g c = c.requires.ends c.into_iter-prefix-iterator.result c.into_iter-prefix-iterator.ensures.into_iter_gives

pub next-requires : goal.next-requires
next-requires g c = c.loop-prefix.iterator.0

pub put-requires : goal.put-requires
put-requires g c =
    let it = c.into_iter-prefix-iterator in
    let xs = c.loop-prefix.yielded in
    let x : g.row.P.Denot × g.row.T.Denot = (c.in-Some.prefix, c.in-Some.value) in
    let more = Yields-more g.I.IntoIter.Iterator.next_gives it.result xs c.loop-prefix.prefix-iterator x c.next.new.self c.loop-prefix.yielded_by c.in-Some.ensures.steps in
    (All-pop (λ item. g.P.Prefix.IsFitting item.0) (xs ++ x ∷ []) xs (Some x) refl (c.requires.fit it.result it.ensures.into_iter_gives (xs ++ x ∷ []) c.next.new.self more)).1

pub loop-prefix-preserved : goal.loop-prefix-preserved
loop-prefix-preserved g c =
    puts_more g.P.Prefix.path c.args.map.now c.loop-prefix.map c.put.new.map c.loop-prefix.yielded (c.in-Some.prefix, c.in-Some.value) c.loop-prefix.invariant c.in_ok-put.ensures.ok

pub loop-prefix-preserved-derived : goal.loop-prefix-preserved-derived
loop-prefix-preserved-derived g c = let went = c.in-Some.ensures.goes.on c.loop-prefix.iterator.1 in (went.0, went.1)

pub loop-prefix-smaller : goal.loop-prefix-smaller
loop-prefix-smaller g c = (c.in-Some.ensures.goes.on c.loop-prefix.iterator.1).2

pub returns-in_err-put-clause-ok : goal.returns-in_err-put-clause-ok
returns-in_err-put-clause-ok g c = let p = err_from_is_err_and c.from_residual.result c.from_residual.ensures.1 in rw p.1 tt

pub returns-clause-ok : goal.returns-clause-ok
returns-clause-ok g c =
    let it = c.into_iter-prefix-iterator in
    (it.result, c.loop-prefix.yielded, it.ensures.into_iter_gives, (c.next.new.self, (c.loop-prefix.prefix-iterator, c.loop-prefix.yielded_by, c.in-None.ensures.steps)), c.loop-prefix.invariant)

-- the item that was refused was taken too
pub returns-in_err-put-clause-range : goal.returns-in_err-put-clause-range
returns-in_err-put-clause-range g c =
    let it = c.into_iter-prefix-iterator in
    let xs = c.loop-prefix.yielded in
    let x : g.row.P.Denot × g.row.T.Denot = (c.in-Some.prefix, c.in-Some.value) in
    let more = Yields-more g.I.IntoIter.Iterator.next_gives it.result xs c.loop-prefix.prefix-iterator x c.next.new.self c.loop-prefix.yielded_by c.in-Some.ensures.steps in
    let p = err_from_is_err_and c.from_residual.result c.from_residual.ensures.1 in
    rw (p.1, p.2) (λ range. (
      it.result,
      xs ++ x ∷ [],
      c.next.new.self,
      it.ensures.into_iter_gives,
      more,
      may_pass g.P.Prefix.path c.args.map.now c.loop-prefix.map xs x c.loop-prefix.invariant (c.in_err-put.ensures.range range),
    ))

pub returns-in_err-put-clause-memory : goal.returns-in_err-put-clause-memory
returns-in_err-put-clause-memory g c =
    let it = c.into_iter-prefix-iterator in
    let xs = c.loop-prefix.yielded in
    let x : g.row.P.Denot × g.row.T.Denot = (c.in-Some.prefix, c.in-Some.value) in
    let more = Yields-more g.I.IntoIter.Iterator.next_gives it.result xs c.loop-prefix.prefix-iterator x c.next.new.self c.loop-prefix.yielded_by c.in-Some.ensures.steps in
    let p = err_from_is_err_and c.from_residual.result c.from_residual.ensures.1 in
    rw (p.1, p.2) (λ memory. (it.result, xs, x, c.next.new.self, it.ensures.into_iter_gives, more, c.in_err-put.ensures.memory memory))
