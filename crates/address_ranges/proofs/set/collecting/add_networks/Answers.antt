-- The loop: each network adds its addresses.
use Rattle.std.proofs.Common.{Some, [], ◌∷◌, ◌++◌, refl}
use Rattle.std.proofs.iter.Next.{Yields-more}
use Rattle.std.proofs.lemmas.List.Elements.{All-pop}
use Rattle.address_ranges.specs.Builders.{is_in_network}
use Rattle.address_ranges.proofs.Builders.{in_more, in_none}
use Rattle.address_ranges.proofs.set.collecting.add_networks.Goals as goal

pub loop-network-init : goal.loop-network-init
loop-network-init g c = λ n _. in_none _

pub loop-network-init-derived : goal.loop-network-init-derived
loop-network-init-derived g c = c.requires.ends c.into_iter-network-iterator.result c.into_iter-network-iterator.ensures.into_iter_gives

pub next-requires : goal.next-requires
next-requires g c = c.loop-network.iterator.0

pub add_network-requires : goal.add_network-requires
add_network-requires g c =
    let it = c.into_iter-network-iterator in
    let xs = c.loop-network.yielded in
    let x = c.in-Some.network in
    let more = Yields-more g.I.IntoIter.Iterator.next_gives it.result xs c.loop-network.network-iterator x c.next.new.self c.loop-network.yielded_by c.in-Some.ensures.steps in
    (All-pop g.P.Prefix.IsFitting (xs ++ x ∷ []) xs (Some x) refl (c.requires.fit it.result it.ensures.into_iter_gives (xs ++ x ∷ []) c.next.new.self more)).1

pub loop-network-preserved : goal.loop-network-preserved
loop-network-preserved g c = λ n lt. in_more (is_in_network g.P.R.Key.bit_width g.P.Prefix.path n) c.loop-network.yielded c.in-Some.network _ _ _ (c.loop-network.invariant n lt) (c.in_ok-add_network.ensures.added n lt)

pub loop-network-preserved-derived : goal.loop-network-preserved-derived
loop-network-preserved-derived g c = let went = c.in-Some.ensures.goes.on c.loop-network.iterator.1 in (went.0, went.1)

pub loop-network-smaller : goal.loop-network-smaller
loop-network-smaller g c = (c.in-Some.ensures.goes.on c.loop-network.iterator.1).2

pub returns : goal.returns
returns g c =
    let it = c.into_iter-network-iterator in
    (it.result, c.loop-network.yielded, it.ensures.into_iter_gives, (c.next.new.self, (c.loop-network.network-iterator, c.loop-network.yielded_by, c.in-None.ensures.steps)), c.loop-network.invariant)
