-- Each value of the walk is that of a path which covers the route, and the last one is that of the longest.
use Rattle.std.proofs.Common.{◌≡◌, ◌<◌, ◌∙◌, Contains, Some, ap, arith, length, slice_get, subst, sym}
use Rattle.std.proofs.lemmas.Option.{slice_get-get_or}
use Rattle.prefix_trie_joint.specs.Joined.{entries_of}
use Rattle.origin_validation.specs.Chains.{IsLatest, NoneMatchesFrom, paths_of}
use Rattle.origin_validation.specs.Validation.{Covers, MakesInvalid, Matches}
use Rattle.origin_validation.specs.declared.vrp.Vrp.{Vrp}
use Rattle.origin_validation.proofs.Walked.{goes_on_walk, longest_within, makes_invalid, next_latest, none_covers, HasWalked}
use Rattle.origin_validation.proofs.vrps.Vrps.validate.Goals as goal

pub matching-requires-clause-within : goal.matching-requires-clause-within
matching-requires-clause-within g c =
    let vrps = c.self.inside.vrps.items in
    let latest = entries_of c.self.inside.latest in
    let next = next_latest vrps latest c.args.route.now c.args.origin c.match_laws.ensures c.self.inside.older.items c.loop-latest.latest-iterator c.loop-latest.longest c.in-Some.latest.now c.next.new.self
    c.in-Some.ensures.steps c.self.invariant c.loop-latest.invariant.2 in
    subst (λ vs. c.in-Some.latest.now < length vs) (sym c.deref.ensures.value) next.1.0

pub returns-in-Some-matching : goal.returns-in-Some-matching
returns-in-Some-matching g c =
    let vrps = c.self.inside.vrps.items in
    let latest = entries_of c.self.inside.latest in
    let next = next_latest vrps latest c.args.route.now c.args.origin c.match_laws.ensures c.self.inside.older.items c.loop-latest.latest-iterator c.loop-latest.longest c.in-Some.latest.now c.next.new.self
    c.in-Some.ensures.steps c.self.invariant c.loop-latest.invariant.2 in
    let last = subst (λ vs. IsLatest (paths_of vs) (length vs) next.0 (Some c.in-Some.latest.now)) (sym c.deref.ensures.value) next.1 in
    subst (λ vs. Contains vs c.in-Some-matching.vrp × Matches c.in-Some-matching.vrp c.args.route.now c.args.origin) (c.deref.ensures.value ∙ c.self.view_is) (c.in-Some-matching.ensures next.0 last)

pub loop-latest-preserved : goal.loop-latest-preserved
loop-latest-preserved g c =
    let vrps = c.self.inside.vrps.items in
    let latest = entries_of c.self.inside.latest in (
      tt,
      tt,
      goes_on_walk vrps latest c.args.route.now c.args.origin c.match_laws.ensures c.self.inside.older.items c.loop-latest.latest-iterator c.loop-latest.longest c.in-Some.latest.now c.next.new.self
          c.in-Some.ensures.steps c.self.invariant
          (λ q last.
          subst (λ vs. NoneMatchesFrom 0 vs q c.args.route.now c.args.origin) c.deref.ensures.value
          (c.in_default.ensures q (subst (λ vs. IsLatest (paths_of vs) (length vs) q (Some c.in-Some.latest.now)) (sym c.deref.ensures.value) last)))
          c.loop-latest.invariant.2,
    )

pub index-requires : goal.index-requires
index-requires g c =
    let vrps = c.self.inside.vrps.items in
    let latest = entries_of c.self.inside.latest in
    let walked = subst (HasWalked vrps latest c.args.route.now c.args.origin c.loop-latest.latest-iterator) c.in-Some-longest.is c.loop-latest.invariant.2 in
    let within = longest_within vrps latest c.args.route.now c.args.origin c.match_laws.ensures c.self.inside.older.items c.loop-latest.latest-iterator c.in-Some-longest.latest c.in-None.ensures.steps.0 c.self.invariant walked in
    let less : c.in-Some-longest.latest < length vrps = within.1.0 in
    omega (arith, less)

pub returns-in-Some-longest : goal.returns-in-Some-longest
returns-in-Some-longest g c =
    let vrps = c.self.inside.vrps.items in
    let latest = entries_of c.self.inside.latest in
    let walked = subst (HasWalked vrps latest c.args.route.now c.args.origin c.loop-latest.latest-iterator) c.in-Some-longest.is c.loop-latest.invariant.2 in
    let within = longest_within vrps latest c.args.route.now c.args.origin c.match_laws.ensures c.self.inside.older.items c.loop-latest.latest-iterator c.in-Some-longest.latest c.in-None.ensures.steps.0 c.self.invariant walked in
    let less : c.in-Some-longest.latest < length vrps = within.1.0 in
    let here : slice_get vrps c.in-Some-longest.latest ≡ Some c.index.result.now = slice_get-get_or vrps c.in-Some-longest.latest c.index.result.now less ∙ ap Some (sym c.index.ensures) in
    subst (λ vs. MakesInvalid vs c.args.route.now c.args.origin c.index.result.now) c.self.view_is
    (makes_invalid vrps latest c.args.route.now c.args.origin c.match_laws.ensures c.self.inside.older.items c.loop-latest.latest-iterator c.in-Some-longest.latest c.index.result.now c.in-None.ensures.steps.0
    c.self.invariant walked here)

pub returns-in-None-longest : goal.returns-in-None-longest
returns-in-None-longest g c =
    let vrps = c.self.inside.vrps.items in
    let latest = entries_of c.self.inside.latest in
    let walked = subst (HasWalked vrps latest c.args.route.now c.args.origin c.loop-latest.latest-iterator) c.in-None-longest.is c.loop-latest.invariant.2 in
    subst (λ vs. (vrp : Vrp) → Contains vs vrp → ¬ (Covers vrp c.args.route.now)) c.self.view_is
    (none_covers vrps latest c.args.route.now c.args.origin c.match_laws.ensures c.self.inside.older.items c.loop-latest.latest-iterator c.in-None.ensures.steps.0 c.self.invariant walked)
