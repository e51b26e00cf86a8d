-- The descent ends at the string's own node with the slots of all its ancestors, or at a missing node of its path.
use Rattle.prefix_trie_table.proofs.Prelude.{◌*◌, ◌/◌, ap, sym, ◌∙◌, drop, arith}
use Rattle.prefix_trie_table.proofs.Lookup.SearchPaths.{left_next, path_none, step_left}
use Rattle.prefix_trie_table.proofs.Strings.Digits.{path-length}
use Rattle.prefix_trie_table.proofs.Tree.Ancestors.{above_root, above_next}
use Rattle.prefix_trie_table.proofs.table.removal.descend_keeping_ancestors.Goals as goal

pub loop-here-init : goal.loop-here-init
loop-here-init g c =
    let top = c.root-here.ensures.level in
    let above = above_root c.args.path.now c.root-here.result.level c.args.above.now.items c.args.nodes.now top c.requires.empty in
    record {
      along = c.root-here.ensures.along c.args.path.now;
      rest_is = c.copy-rest.ensures ∙ ap (λ n. drop (5 * n) c.args.path.now) (sym top);
      short = omega (arith, c.len-last.ensures.len, c.len-last.ensures.short);
      long = above.long;
      slots = above.slots;
    }

pub step_down-requires-clause-along : goal.step_down-requires-clause-along
step_down-requires-clause-along g c = let at = c.loop-here.invariant in (c.args.path.now, at.along, at.rest_is, at.short, (ap (λ n. n / 5) c.len-last.ensures.len))

pub returns-in_default-clause-missing : goal.returns-in_default-clause-missing
returns-in_default-clause-missing g c = λ reading paths hold.
    let at = c.loop-here.invariant in
    let last = ap (λ n. n / 5) c.len-last.ensures.len in
    path_none c.args.path.now c.loop-here.here c.args.nodes.now (c.in_default.ensures.step c.args.path.now at.along at.rest_is last) reading paths hold c.loop-here.rest at.rest_is
    (step_left c.args.path.now c.loop-here.rest c.loop-here.here.level _ at.rest_is last c.loop-here-test.true)

pub after_five-rest-requires : goal.after_five-rest-requires
after_five-rest-requires g c = step_left c.args.path.now c.loop-here.rest c.loop-here.here.level _ c.loop-here.invariant.rest_is (ap (λ n. n / 5) c.len-last.ensures.len) c.loop-here-test.true

pub loop-here-preserved : goal.loop-here-preserved
loop-here-preserved g c =
    let at = c.loop-here.invariant in
    let next = c.in-Some.ensures.step c.args.path.now at.along at.rest_is (ap (λ n. n / 5) c.len-last.ensures.len) in
    let above = above_next c.args.path.now c.loop-here.here c.loop-here.above.items c.push.new.self.items c.args.nodes.now c.in-Some.next.level (record { long = at.long; slots = at.slots }) at.along next.0 c.push.ensures.items in
    record {
      along = next.1;
      rest_is = c.after_five-rest.ensures ∙ left_next c.args.path.now c.loop-here.rest c.loop-here.here.level c.in-Some.next.level at.rest_is next.0;
      short = at.short;
      long = above.long;
      slots = above.slots;
    }

pub returns-clause-found : goal.returns-clause-found
returns-clause-found g c =
    let at = c.loop-here.invariant in
    let whole = at.along.whole in (
      record { along = at.along; last = omega (arith, whole, path-length c.args.path.now, c.len-last.ensures.len, c.loop-here-test.false); short = at.short },
      record { long = at.long; slots = at.slots },
    )

pub returns-clause-rest : goal.returns-clause-rest
returns-clause-rest g c = c.loop-here.invariant.rest_is
