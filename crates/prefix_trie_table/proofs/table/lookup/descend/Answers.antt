-- A descent ends at the last node of the search path, with the bits of the path that are left.
use Rattle.prefix_trie_table.proofs.Prelude.{arith, ◌/◌, ap}
use Rattle.prefix_trie_table.proofs.Lookup.SearchPaths.{followed_root, followed_next, left_length}
use Rattle.prefix_trie_table.proofs.table.lookup.descend.Goals as goal

pub down-init : goal.down-init
down-init g c = followed_root c.args.path c.root-here.result c.args.nodes.now c.root-here.ensures.level (c.root-here.ensures.along c.args.path) (omega (arith, c.len-len.ensures.len, c.len-len.ensures.short)) _ _ c.root-here.ensures.visits

pub step_down-requires-clause-along : goal.step_down-requires-clause-along
step_down-requires-clause-along g c = let at = c.down.invariant in (c.args.path, at.along, at.rest_is, at.short, (ap (λ n. n / 5) c.len-len.ensures.len))

pub returns-in_default-clause-last : goal.returns-in_default-clause-last
returns-in_default-clause-last g c = c.in_default.ensures.step c.args.path c.down.invariant.along c.down.invariant.rest_is (ap (λ n. n / 5) c.len-len.ensures.len)

pub after_five-rest-requires : goal.after_five-rest-requires
after_five-rest-requires g c =
    let at = c.down.invariant in
    let next = c.in-Some.ensures.step c.args.path at.along at.rest_is (ap (λ n. n / 5) c.len-len.ensures.len) in
    let whole = next.1.whole in
    omega (arith, next.0, whole, left_length c.args.path c.down.rest c.down.here.level at.rest_is)

pub down-preserved : goal.down-preserved
down-preserved g c =
    let at = c.down.invariant in
    rw c.after_five-rest.ensures (followed_next c.args.path c.down.here c.in-Some.next c.args.nodes.now _ _ _ _ at (c.in-Some.ensures.step c.args.path at.along at.rest_is (ap (λ n. n / 5) c.len-len.ensures.len)) c.in-Some.ensures.visits)

-- goals whose proofs `search` takes seconds to find

pub overflow_mul-here : goal.overflow_mul-here
overflow_mul-here g c =
    let whole = c.down.invariant.along.whole in
    omega (arith, whole, c.down.invariant.short)

pub overflow_sub-len : goal.overflow_sub-len
overflow_sub-len g c =
    let whole = c.down.invariant.along.whole in
    omega (arith, whole, c.len-len.ensures.len)

pub first-requires : goal.first-requires
first-requires g c = omega (arith, c.len-len.ensures.len, left_length c.args.path c.down.rest c.down.here.level c.down.invariant.rest_is)

pub down-smaller : goal.down-smaller
down-smaller g c =
    let at = c.down.invariant in
    let next = c.in-Some.ensures.step c.args.path at.along at.rest_is (ap (λ n. n / 5) c.len-len.ensures.len) in
    omega (arith, next.0, next.1.whole)
