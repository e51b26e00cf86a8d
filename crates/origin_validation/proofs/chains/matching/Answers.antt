-- A VRP that does not match is passed, and the chain goes on before it.
use Rattle.std.proofs.Common.{◌≡◌, ◌<◌, ℕ, None, Option, Some, ap, arith, get_or, length, slice_get, sym, subst, ◌∙◌}
use Rattle.std.proofs.lemmas.Option.{slice_get-get_or}
use Rattle.origin_validation.proofs.Steps.{at_index, begins_at, ends_at, goes_on, nearer, refuted, steps_left, within_more, GoesOnAt, IsWithin}
use Rattle.origin_validation.proofs.chains.matching.Goals as goal

pub loop-next-init : goal.loop-next-init
loop-next-init c = (c.requires.within, λ q. begins_at c.args.vrps.now c.args.route.now c.args.origin q c.args.latest)

pub bounds-older-index : goal.bounds-older-index
bounds-older-index c =
    let less : c.in-Some.index < length c.args.vrps.now = subst (IsWithin (length c.args.vrps.now)) c.in-Some.is c.loop-next.invariant.0 in
    omega (arith, less, c.requires.counted)

pub loop-next-smaller : goal.loop-next-smaller
loop-next-smaller c =
    let less : c.in-Some.index < length c.args.vrps.now = subst (IsWithin (length c.args.vrps.now)) c.in-Some.is c.loop-next.invariant.0 in
    let there = slice_get-get_or c.args.older.now c.in-Some.index None (omega (arith, less, c.requires.counted)) in
    let here = at_index c.args.vrps.now c.in-Some.index less in
    let near = nearer c.args.vrps.now c.args.older.now c.in-Some.index (get_or c.args.older.now c.in-Some.index None) here.0 c.requires.chained there here.1 in
    subst (λ (o : Option ℕ). steps_left (get_or c.args.older.now c.in-Some.index None) < steps_left o) (sym c.in-Some.is) (omega (arith, near))

pub loop-next-preserved : goal.loop-next-preserved
loop-next-preserved c =
    let less : c.in-Some.index < length c.args.vrps.now = subst (IsWithin (length c.args.vrps.now)) c.in-Some.is c.loop-next.invariant.0 in
    let there = slice_get-get_or c.args.older.now c.in-Some.index None (omega (arith, less, c.requires.counted)) in
    let vrp = c.index-vrps-index.result in
    let here : slice_get c.args.vrps.now c.in-Some.index ≡ Some vrp = slice_get-get_or c.args.vrps.now c.in-Some.index vrp less ∙ ap Some (sym c.index-vrps-index.is) in
    let next = get_or c.args.older.now c.in-Some.index None in (
      within_more (length c.args.vrps.now) c.in-Some.index next (nearer c.args.vrps.now c.args.older.now c.in-Some.index next vrp c.requires.chained there here) less,
      λ q is.
          goes_on c.args.vrps.now c.args.route.now c.args.origin c.args.older.now q c.in-Some.index next vrp c.requires.chained there here
          (refuted c.matches.result c.if-matches.false c.matches.ensures)
          (subst (GoesOnAt c.args.vrps.now c.args.route.now c.args.origin q) c.in-Some.is (c.loop-next.invariant.1 q is)),
    )

pub returns : goal.returns
returns c = λ q is. ends_at c.args.vrps.now c.args.route.now c.args.origin q (subst (GoesOnAt c.args.vrps.now c.args.route.now c.args.origin q) c.in_default.is (c.loop-next.invariant.1 q is))
