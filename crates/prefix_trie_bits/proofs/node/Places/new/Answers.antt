-- The loop of `Places::new` brings the bits of both bitmaps into listing order, one bit in each iteration.
use Rattle.prefix_trie_bits.proofs.Prelude.{◌≡◌, ◌<◌, ◌≤◌, ◌↔◌, true, length, sym, subst, arith, Contains, is_in}
use Rattle.prefix_trie_bits.proofs.Listing.{low_positive, moved_fits, still_even, moved_bits, all_moved, listing_places}
use Rattle.prefix_trie_bits.proofs.PlaceOrder.{in_places, walk_sorted}
use Rattle.prefix_trie_bits.proofs.node.Places.new.Goals as goal

pub position_of-requires-clause-some : goal.position_of-requires-clause-some
position_of-requires-clause-some c =
    low_positive c.loop-rest.rest c.loop-rest-test.true (omega (arith, c.loop-rest.auto.rest-fits)) c.loop-rest.invariant.even

pub loop-rest-preserved : goal.loop-rest-preserved
loop-rest-preserved c =
    let ne = c.loop-rest-test.true in
    let fits : c.loop-rest.rest < 18446744073709551616 = omega (arith, c.loop-rest.auto.rest-fits) in
    let even = c.loop-rest.invariant.even in
    let place = c.position_of.ensures in
    record {
      fits = moved_fits c.loop-rest.rest ne fits even _ place.small place.position c.loop-rest.listing c.loop-rest.invariant.fits;
      even = still_even c.loop-rest.rest ne fits even;
      bits = moved_bits c.loop-rest.rest ne fits even _ place.small place.position _ c.loop-rest.listing c.loop-rest.invariant.bits;
    }

pub returns-clause-places : goal.returns-clause-places
returns-clause-places c =
    listing_places c.args.values c.args.children c.requires c.ranges.children.fits c.loop-rest.listing (all_moved c.loop-rest.listing c.loop-rest.rest _ c.loop-rest-test.false c.loop-rest.invariant.bits)

pub returns-clause-each : goal.returns-clause-each
returns-clause-each c =
    λ s. subst (λ ss. Contains ss s ↔ ((length s ≤ 5) × (is_in c.args.values c.args.children s ≡ true))) (sym (returns-clause-places c)) (in_places c.args.values c.args.children s)

pub returns-clause-sorted : goal.returns-clause-sorted
returns-clause-sorted c = walk_sorted c.loop-rest.listing
