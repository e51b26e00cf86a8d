-- The changes are printed, and there are none exactly if the tables are equal.
use Rattle.std.proofs.Common.{◌≡◌, ◌↔◌, ◌∙◌, [], ap, flat_map, map, refl, subst, sym}
use Rattle.std.specs.Io.KnownBytes.{Appends}
use Rattle.std.proofs.lemmas.Result.{on_ok_weaker}
use Rattle.prefix_trie_ops.specs.Merging.{lent_side}
use Rattle.route_tables.specs.Printed.{change_line}
use Rattle.route_tables.proofs.Changes.{same_so_far}
use Rattle.route_tables.proofs.CheckSteps.{on_ok}
use Rattle.route_tables.proofs.commands.tables.diff.Goals as goal

pub returns-clause-lines : goal.returns-clause-lines
returns-clause-lines g c =
    on_ok_weaker c.print_changes.result
    (λ printed ip computes. subst (λ xs. Appends c.args.out.now c.print_changes.new.out (flat_map (λ e. change_line (ip e.0) e.1) xs))
    (ap (map lent_side) c.as_slice-list.ensures.value ∙ c.in_ok-changes.ensures.listed) (printed ip computes))
    c.print_changes.ensures

pub returns-clause-same : goal.returns-clause-same
returns-clause-same g c =
    let none = subst (λ xs. (xs ≡ []) ↔ (c.args.old.now.entries ≡ c.args.new.now.entries)) (sym c.as_slice-list.ensures.value) c.in_ok-changes.ensures.none in
    on_ok c.print_changes.result _ (same_so_far c.as_slice-list.result.now _ c.args.is_same.now _ c.is_empty.result c.is_empty.ensures none refl)
