-- The held value is taken if the set has it, and otherwise the set's first value.
use Rattle.std.proofs.Common.{◌∙◌, ◌+◌, cond, slice_range, Some, None, ap, sym}
use Rattle.std.specs.Set.{is_member}
use Rattle.prefix_trie_ops.specs.Parts.{best_value}
use Rattle.prefix_trie_ops.proofs.Smallest.Ranges.{read_first}
use Rattle.prefix_trie_ops.proofs.map.optimal.sets.best_in.Goals as goal
use Rattle.prefix_trie_ops.proofs.map.optimal.sets.best_in.Goals.{in-Some+else-has, in_default}

pub returns : goal.returns
returns g c some within =
    let xs = c.args.values.now in
    let i = c.args.set.start in
    let end = c.args.set.end in
    let eq = g.T.PartialEq.eq in
    let first = read_first c.get.result xs i end c.get.ensures.lookup.0 c.get.ensures.lookup.1 some within in
    let x = first.0 in
    let rest = slice_range xs (i + 1) end in
    c.copied.ensures ∙ first.1 ∙ sym (elim c.match-held.branch [
      | in-Some+else-has w ↦
          let v = w.in-Some.value in
          ap (best_value eq (slice_range xs i end)) w.in-Some.is ∙ ap (λ ys. best_value eq ys (Some v)) first.2
          ∙ ap (λ b. Some (cond b v x)) (ap (λ ys. is_member eq ys v) (sym first.2) ∙ sym w.has.ensures ∙ w.if-has.false)
      | in_default w ↦ ap (best_value eq (slice_range xs i end)) w.in_default.is ∙ ap (λ ys. best_value eq ys None) first.2
    ])
