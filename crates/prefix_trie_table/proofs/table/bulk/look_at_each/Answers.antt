-- Each search that is looked at goes on or stores its result, and no search still to be looked at is overwritten.
use Rattle.prefix_trie_table.proofs.Prelude.{◌≡◌, ◌+◌, ◌<◌, MatchOption, get_or, length, map, take, drop, refl, sym, ap, ◌∙◌, subst, arith, drop-set-lt, length-map, Node, Descent, GoOn, new_descent, reached_by, blank_node, node_at, IsAlong, IsLast}
use Rattle.prefix_trie_table.proofs.Lookup.Bulk.{descent_is, descent_inside, descent_best, descent_next, read_on, rest_more, round_on, round_end, question_at, go_on_none, found_end}
use Rattle.prefix_trie_table.proofs.Lookup.SearchPaths.{path_end}
use Rattle.prefix_trie_table.proofs.table.bulk.look_at_each.Goals as goal
use Rattle.prefix_trie_table.proofs.table.bulk.look_at_each.Goals.{in-Some, in-None}

pub loop-j-init : goal.loop-j-init
loop-j-init g c = record { few = omega arith; rest = refl; go_on = λ v given. go_on_none v (map g.P.Prefix.path c.args.prefixes.now) c.args.level c.args.found.now }

pub offset_bounds-prefixes-descent : goal.offset_bounds-prefixes-descent
offset_bounds-prefixes-descent g c =
    let inside = descent_inside _ g.P.Prefix.path c.args.prefixes.now _ _ _ _ c.requires.count.0 c.requires.read.2 c.loop-j.descents c.loop-j.j c.loop-j.invariant.rest c.loop-j-test.true (new_descent 0) in
    omega (arith, inside)

pub bounds-prefixes-descent : goal.bounds-prefixes-descent
bounds-prefixes-descent g c =
    descent_inside _ g.P.Prefix.path c.args.prefixes.now _ _ _ _ c.requires.count.0 c.requires.read.2 c.loop-j.descents c.loop-j.j c.loop-j.invariant.rest c.loop-j-test.true (new_descent 0)

pub path-path-requires : goal.path-path-requires
path-path-requires g c =
    let inside = descent_inside _ g.P.Prefix.path c.args.prefixes.now _ _ _ _ c.requires.count.0 c.requires.read.2 c.loop-j.descents c.loop-j.j c.loop-j.invariant.rest c.loop-j-test.true (new_descent 0) in
    subst g.P.Prefix.IsFitting (sym c.index-prefixes-descent.is) (c.requires.fit _ c.index-prefixes-descent.result inside)

pub look-best-requires : goal.look-best-requires
look-best-requires g c =
    let inside = descent_inside _ g.P.Prefix.path c.args.prefixes.now _ _ _ _ c.requires.count.0 c.requires.read.2 c.loop-j.descents c.loop-j.j c.loop-j.invariant.rest c.loop-j-test.true (new_descent 0) in
    let r = c.requires.read in
    let q = c.path-path.result in
    let is = question_at g.P.Prefix.path c.args.prefixes.now _ inside c.index-prefixes-descent.result c.index-prefixes-descent.is q c.path-path.ensures.path in record {
      along = (
        r.0,
        r.1,
        read_on r.0 _ c.args.level c.args.descents.now c.args.count c.args.read.now c.requires.count.0 r.2 c.loop-j.descents c.loop-j.j c.loop-j.invariant.rest c.loop-j-test.true (new_descent 0)
            blank_node (omega (arith, c.loop-j-test.true, c.requires.count.1)) q is,
      );
    }

pub offset_bounds-found-descent : goal.offset_bounds-found-descent
offset_bounds-found-descent g c =
    let inside = descent_inside _ g.P.Prefix.path c.args.prefixes.now _ _ _ _ c.requires.count.0 c.requires.read.2 c.loop-j.descents c.loop-j.j c.loop-j.invariant.rest c.loop-j-test.true (new_descent 0) in
    let fits = c.well_formed in
    omega (arith, inside, c.requires.same_length, c.loop-j.auto.found)

pub bounds-found-descent : goal.bounds-found-descent
bounds-found-descent g c =
    let inside = descent_inside _ g.P.Prefix.path c.args.prefixes.now _ _ _ _ c.requires.count.0 c.requires.read.2 c.loop-j.descents c.loop-j.j c.loop-j.invariant.rest c.loop-j-test.true (new_descent 0) in
    omega (arith, inside, c.requires.same_length, c.loop-j.auto.found)

pub loop-j-preserved : goal.loop-j-preserved
loop-j-preserved g c =
    let at = c.loop-j.invariant in
    let j = c.loop-j.j in
    let q = c.path-path.result in
    let inside = descent_inside _ g.P.Prefix.path c.args.prefixes.now _ _ _ _ c.requires.count.0 c.requires.read.2 c.loop-j.descents c.loop-j.j c.loop-j.invariant.rest c.loop-j-test.true (new_descent 0) in
    let r = c.requires.read in
    let is = question_at g.P.Prefix.path c.args.prefixes.now _ inside c.index-prefixes-descent.result c.index-prefixes-descent.is q c.path-path.ensures.path in
    let wide : c.loop-j.kept < length c.loop-j.descents = omega (arith, at.few, c.loop-j-test.true, c.requires.count.0, c.loop-j.auto.descents) in
    let rest = rest_more r.0 _ c.args.level c.args.descents.now c.args.count c.args.read.now c.requires.count.0 r.2 c.loop-j.descents j at.rest c.loop-j-test.true in
    elim c.match-next.branch [
      | in-Some w ↦ record {
        few = omega (arith, w.kept-is, at.few);
        rest = ap (drop (j + 1)) w.descents-is ∙ drop-set-lt (j + 1) c.loop-j.descents c.loop-j.kept _ (omega (arith, at.few)) ∙ rest;
        go_on = λ v given.
            let on = read_on v _ c.args.level c.args.descents.now c.args.count c.args.read.now c.requires.count.0 given c.loop-j.descents j at.rest c.loop-j-test.true (new_descent 0) blank_node (omega (arith, c.loop-j-test.true, c.requires.count.1)) q is in
            let descent : Descent = get_or c.loop-j.descents j (new_descent 0) in
            let node : Node = get_or c.args.read.now j blank_node in
            let has = c.look-best.ensures.found v on (descent_best v _ c.args.level descent (descent_is v _ c.args.level c.args.descents.now c.args.count c.args.read.now c.requires.count.0 given c.loop-j.descents j at.rest c.loop-j-test.true (new_descent 0)) q is) in
            let next = subst (λ o. MatchOption o (IsLast q (reached_by descent node c.args.level) v) (λ at. IsAlong q (record { at = at; node = node_at v.slots at; level = c.args.level + 1 }) v)) w.in-Some.is (c.look-best.ensures.next v on) in
            round_on v _ c.args.level c.args.descents.now c.args.count c.args.read.now c.requires.count.0 given c.loop-j.descents j at.rest c.loop-j-test.true c.loop-j.kept c.args.found.now c.loop-j.found (at.go_on v given) (new_descent 0) c.match-next.descents c.match-next.kept c.match-next.found wide w.kept-is _ w.descents-is w.found-is refl
            (descent_next v _ c.args.level c.args.descents.now c.args.count c.args.read.now c.requires.count.0 given c.loop-j.descents j at.rest c.loop-j-test.true (new_descent 0) q is w.in-Some.at c.look-best.result.0 next has);
      }
      | in-None w ↦ record {
        few = omega (arith, w.kept-is, at.few);
        rest = ap (drop (j + 1)) w.descents-is ∙ rest;
        go_on = λ v given.
            let on = read_on v _ c.args.level c.args.descents.now c.args.count c.args.read.now c.requires.count.0 given c.loop-j.descents j at.rest c.loop-j-test.true (new_descent 0) blank_node (omega (arith, c.loop-j-test.true, c.requires.count.1)) q is in
            let descent : Descent = get_or c.loop-j.descents j (new_descent 0) in
            let node : Node = get_or c.args.read.now j blank_node in
            let has = c.look-best.ensures.found v on (descent_best v _ c.args.level descent (descent_is v _ c.args.level c.args.descents.now c.args.count c.args.read.now c.requires.count.0 given c.loop-j.descents j at.rest c.loop-j-test.true (new_descent 0)) q is) in
            let next = subst (λ o. MatchOption o (IsLast q (reached_by descent node c.args.level) v) (λ at. IsAlong q (record { at = at; node = node_at v.slots at; level = c.args.level + 1 }) v)) w.in-None.is (c.look-best.ensures.next v on) in
            round_end v _ c.args.level c.args.descents.now c.args.count c.args.read.now c.requires.count.0 given c.loop-j.descents j at.rest c.loop-j-test.true c.loop-j.kept c.args.found.now c.loop-j.found (at.go_on v given) (new_descent 0) c.match-next.descents c.match-next.kept c.match-next.found w.kept-is w.descents-is c.look-best.result.0 w.found-is
            (c.loop-j.auto.found ∙ c.requires.same_length ∙ sym (length-map c.args.prefixes.now g.P.Prefix.path)) q is (found_end q (reached_by descent node c.args.level) v next c.look-best.result.0 has)
            (λ n. path_end q (reached_by descent node c.args.level) v next n.reading n.paths n.hold);
      }
    ]

pub returns-clause-go_on : goal.returns-clause-go_on
returns-clause-go_on g c = λ v given.
    let at : c.loop-j.j ≡ c.args.count = omega (arith, c.loop-j-test.false, c.loop-j.auto.j-end) in
    subst (λ n. GoOn v (map g.P.Prefix.path c.args.prefixes.now) c.args.level (take n c.args.descents.now) (take c.loop-j.kept c.loop-j.descents) c.args.found.now c.loop-j.found) at (c.loop-j.invariant.go_on v given)
