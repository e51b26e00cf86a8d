-- The loop: each range adds its addresses.
use Rattle.address_ranges.specs.Builders.{is_in_range}
use Rattle.address_ranges.proofs.Builders.{in_more, in_none}
use Rattle.address_ranges.proofs.set.collecting.add_ranges.Goals as goal

pub loop-first-init : goal.loop-first-init
loop-first-init g c = λ n _. in_none _

pub loop-first-init-derived : goal.loop-first-init-derived
loop-first-init-derived g c = c.requires c.into_iter-first-iterator.result c.into_iter-first-iterator.ensures.into_iter_gives

pub next-requires : goal.next-requires
next-requires g c = c.loop-first.iterator.0

pub loop-first-preserved : goal.loop-first-preserved
loop-first-preserved g c = λ n lt. in_more (is_in_range g.P.R.Key.bits n) c.loop-first.yielded (c.in-Some.first, c.in-Some.last) _ _ _ (c.loop-first.invariant n lt) (c.in_ok-add_range.ensures.added n lt)

pub loop-first-preserved-derived : goal.loop-first-preserved-derived
loop-first-preserved-derived g c = let went = c.in-Some.ensures.goes.on c.loop-first.iterator.1 in (went.0, went.1)

pub loop-first-smaller : goal.loop-first-smaller
loop-first-smaller g c = (c.in-Some.ensures.goes.on c.loop-first.iterator.1).2

pub returns : goal.returns
returns g c =
    let it = c.into_iter-first-iterator in
    (it.result, c.loop-first.yielded, it.ensures.into_iter_gives, (c.next.new.self, (c.loop-first.first-iterator, c.loop-first.yielded_by, c.in-None.ensures.steps)), c.loop-first.invariant)
