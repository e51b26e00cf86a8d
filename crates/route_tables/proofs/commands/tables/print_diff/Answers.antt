-- The changes of both families are printed, and the tables are equal exactly if both families are.
use Rattle.std.proofs.lemmas.Result.{on_ok_weaker}
use Rattle.prefix_trie_joint.specs.declared.prefix.IpPrefix.TheVariants.{V4, V6}
use Rattle.route_tables.proofs.Printing.{appends_both}
use Rattle.route_tables.proofs.commands.tables.print_diff.Goals as goal

pub returns-clause-lines : goal.returns-clause-lines
returns-clause-lines g c =
    on_ok_weaker c.diff-2.result (λ second. appends_both c.args.out.now c.diff.new.out c.diff-2.new.out _ _ (c.in_ok-diff.ensures.lines V4 (λ p q e. e)) (second V6 (λ p q e. e))) c.diff-2.ensures.lines

pub returns-clause-same : goal.returns-clause-same
returns-clause-same g c =
    let first = c.in_ok-diff.ensures.same in
    on_ok_weaker c.diff-2.result
    (λ second. (
      λ same.
          let later = second.0 same in
          let before = first.0 later.0 in
          (before.0, before.1, later.1),
      λ (before, ipv4, ipv6). second.1 (first.1 (before, ipv4), ipv6),
    ))
    c.diff-2.ensures.same
