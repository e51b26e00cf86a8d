-- The loop of `new` appends one VRP after another to the chain of its path.
use Rattle.std.proofs.Common.{◌≡◌, ◌<◌, ◌+◌, Some, ap, arith, length, slice_get, sym, subst, ◌∙◌}
use Rattle.std.proofs.lemmas.Option.{slice_get-get_or}
use Rattle.std.proofs.lemmas.Result.{err_from_is_err_and}
use Rattle.prefix_trie_joint.specs.Joined.{entries_of}
use Rattle.origin_validation.specs.Chains.{AreIndexed, paths_of}
use Rattle.origin_validation.proofs.Latest.{indexed_more, none_indexed, path_at}
use Rattle.origin_validation.proofs.vrps.Vrps.new.Goals as goal

pub loop-index-init : goal.loop-index-init
loop-index-init g c = record {
  indexed =
      subst (λ older. AreIndexed 0 c.args.vrps.items older (entries_of c.in_ok-latest.latest)) (sym c.new-older.ensures.items)
      (none_indexed c.args.vrps.items (entries_of c.in_ok-latest.latest) (c.in_ok-latest.ensures.latest (paths_of c.args.vrps.items)));
  after = c.in_ok-latest.ensures.after;
}

pub loop-index-preserved : goal.loop-index-preserved
loop-index-preserved g c =
    let vrps = c.args.vrps.items in
    let less : c.loop-index.index < length vrps = omega arith in
    let here : slice_get vrps c.loop-index.index ≡ Some c.index.result.now = slice_get-get_or vrps c.loop-index.index c.index.result.now less ∙ ap Some (sym c.index.ensures) in
    let latest = c.in_ok-before.ensures.chained (paths_of vrps) (path_at vrps c.loop-index.index c.index.result.now here) c.loop-index.invariant.indexed.latest_are in
    record {
      indexed =
          subst (λ older. AreIndexed (c.loop-index.index + 1) vrps older (entries_of c.append.new.latest)) (sym c.in-Ok-push.ensures.items)
          (indexed_more vrps c.loop-index.index c.loop-index.older.items (entries_of c.loop-index.latest) (entries_of c.append.new.latest) c.index.result.now c.in_ok-before.before here
          c.in_ok-before.ensures.before c.append.ensures.fitting latest c.loop-index.invariant.indexed);
      after = c.in_ok-before.ensures.after c.loop-index.index c.loop-index.invariant.after;
    }

pub invariant_of-result : goal.invariant_of-result
invariant_of-result g c =
    let all : c.loop-index.index ≡ length c.args.vrps.items = omega arith in
    subst (λ n. AreIndexed n c.args.vrps.items c.loop-index.older.items (entries_of c.loop-index.latest)) all c.loop-index.invariant.indexed

pub returns-in_err-before-clause-range : goal.returns-in_err-before-clause-range
returns-in_err-before-clause-range g c =
    let p = err_from_is_err_and c.from_residual-in_err-before.result c.from_residual-in_err-before.ensures.1 in
    let less : c.loop-index.index < length c.args.vrps.items = omega arith in
    rw (p.1, p.2) (λ range.
    let many = c.in_err-before.ensures.range range c.loop-index.index c.loop-index.invariant.after in
    omega (arith, many, less))
