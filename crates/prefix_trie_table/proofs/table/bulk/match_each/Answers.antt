-- Each round moves all searches one level down, so all have their matches when none is left.
use Rattle.prefix_trie_table.proofs.Prelude.{◌≡◌, ◌+◌, ◌*◌, ◌≤◌, length, map, take, sum, sum_by, refl, ap, ◌∙◌, subst, arith, inl, length-map, HaveMatches, cost_of, question_of}
use Rattle.std.proofs.lemmas.List.{length-take-le, take_all}
use Rattle.prefix_trie_bits.specs.Keys.{path_within}
use Rattle.prefix_trie_table.proofs.Lookup.BulkRounds.{new_descents, new_under_way, new_costs, ahead_inside, level_fits, are_read, matched_next, counted_next, sums_first, sums_last}
use Rattle.prefix_trie_table.proofs.table.bulk.match_each.Goals as goal

pub round-init : goal.round-init
round-init g c =
    let long = length-map c.args.prefixes.now g.P.Prefix.path in
    let descents = c.begin.new.descents in
    let n = length c.args.prefixes.now in
    let space : n ≤ length descents = omega (arith, c.requires.few, c.begin.ensures.length) in
    record {
      few = c.requires.few;
      space = (c.begin.ensures.length, refl);
      descents = new_descents g.P.Prefix.path g.P.Prefix.IsFitting g.P.R.Key.bit_width (path_within g.met.P.Prefix.prefix_laws) c.args.nodes.now c.args.prefixes.now c.requires.fit descents n space (omega arith) c.begin.ensures.new;
      matched = λ i q a inside q_is a_is. inl (new_under_way descents n space c.begin.ensures.new i (omega (arith, inside, long)));
      counted = λ costs same are.
          sums_first _ _ _ n (new_costs descents costs n space (omega (arith, same)) c.begin.ensures.new ∙ ap sum (take_all n costs (omega (arith, same))));
    }

pub read_each-requires-clause-count : goal.read_each-requires-clause-count
read_each-requires-clause-count g c = let at = c.round.invariant in (omega (arith, at.few, at.space.0), omega (arith, at.few, at.space.1))

pub read_each-requires-clause-inside : goal.read_each-requires-clause-inside
read_each-requires-clause-inside g c =
    let at = c.round.invariant in ahead_inside c.args.nodes.now _ c.round.level c.round.descents c.round.left (omega (arith, at.few, at.space.0)) at.descents c.requires.sound.0

pub look_at_each-left-requires-clause-count : goal.look_at_each-left-requires-clause-count
look_at_each-left-requires-clause-count g c =
    let at = c.round.invariant in (omega (arith, at.few, at.space.0), omega (arith, at.few, at.space.1, c.read_each.ensures.length))

pub look_at_each-left-requires-clause-read : goal.look_at_each-left-requires-clause-read
look_at_each-left-requires-clause-read g c =
    let at = c.round.invariant in
    (c.args.nodes.now, c.requires.sound, are_read c.args.nodes.now _ c.round.level c.round.descents c.round.left (omega (arith, at.few, at.space.0)) at.descents c.requires.sound.0 c.read_each.new.read c.read_each.ensures.read)

pub overflow_add-level : goal.overflow_add-level
overflow_add-level g c =
    let at = c.round.invariant in
    let fits = level_fits g.P.Prefix.path g.P.Prefix.IsFitting g.P.R.Key.bit_width (path_within g.met.P.Prefix.prefix_laws) c.args.nodes.now c.args.prefixes.now c.requires.fit c.round.level c.round.descents c.round.left (omega (arith, at.few, at.space.0)) at.descents c.round-test.true in
    let short = g.met.P.Prefix.prefix_laws.keys.at_most_128 in
    omega (arith, fits, short)

pub round-smaller : goal.round-smaller
round-smaller g c =
    let at = c.round.invariant in
    let fits = level_fits g.P.Prefix.path g.P.Prefix.IsFitting g.P.R.Key.bit_width (path_within g.met.P.Prefix.prefix_laws) c.args.nodes.now c.args.prefixes.now c.requires.fit c.round.level c.round.descents c.round.left (omega (arith, at.few, at.space.0)) at.descents c.round-test.true in
    omega (arith, fits)

pub round-preserved : goal.round-preserved
round-preserved g c =
    let at = c.round.invariant in
    let v = c.args.nodes.now in
    let n = c.look_at_each-left.result in
    let descents = take c.round.left c.round.descents in
    let next = take n c.look_at_each-left.new.descents in
    let lengths = c.look_at_each-left.ensures.lengths in
    let few : n ≤ length c.look_at_each-left.new.descents = omega (arith, c.look_at_each-left.ensures.few, at.few, at.space.0, lengths.0) in
    let go = c.look_at_each-left.ensures.go_on v (are_read c.args.nodes.now _ c.round.level c.round.descents c.round.left (omega (arith, at.few, at.space.0)) at.descents c.requires.sound.0 c.read_each.new.read c.read_each.ensures.read) in
    record {
      few = omega (arith, c.look_at_each-left.ensures.few, at.few);
      space = (lengths.0 ∙ at.space.0, c.read_each.ensures.length ∙ at.space.1);
      descents = go.descents_are;
      matched = matched_next v _ c.round.level descents next c.round.found c.look_at_each-left.new.found go at.matched;
      counted = λ costs same are.
          counted_next v _ c.round.level descents next c.round.found c.look_at_each-left.new.found go costs are c.round.left n
          (g.V.VisitCounter.count c.round.counter) (g.V.VisitCounter.count c.read_each.new.counter) (g.V.VisitCounter.count c.args.counter.now + sum costs)
          (length-take-le c.round.left c.round.descents (omega (arith, at.few, at.space.0))) (length-take-le n c.look_at_each-left.new.descents few) (at.counted costs same are) c.read_each.ensures.visits;
    }

pub returns-clause-matched : goal.returns-clause-matched
returns-clause-matched g c =
    let none : c.round.left ≡ 0 = omega (arith, c.round-test.false) in
    subst (λ n. HaveMatches c.args.nodes.now (map g.P.Prefix.path c.args.prefixes.now) (map question_of (take n c.round.descents)) c.round.found) none c.round.invariant.matched

pub returns-clause-counted : goal.returns-clause-counted
returns-clause-counted g c = λ costs same are.
    let none : c.round.left ≡ 0 = omega (arith, c.round-test.false) in
    sums_last _ _ c.round.level
    (subst (λ n. g.V.VisitCounter.count c.round.counter + sum_by (cost_of costs) (take n c.round.descents) ≡ g.V.VisitCounter.count c.args.counter.now + sum costs + n * c.round.level) none (c.round.invariant.counted costs same are))
