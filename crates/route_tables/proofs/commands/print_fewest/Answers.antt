-- The networks of both families are printed.
use Rattle.std.proofs.Common.{map, subst}
use Rattle.std.specs.Io.KnownBytes.{Appends}
use Rattle.std.proofs.lemmas.Result.{on_ok_weaker}
use Rattle.prefix_trie_joint.specs.declared.prefix.IpPrefix.TheVariants.{V4, V6}
use Rattle.route_tables.specs.Printed.{networks_text}
use Rattle.route_tables.proofs.Printing.{prints_networks}
use Rattle.route_tables.proofs.commands.print_fewest.Goals as goal

pub returns : goal.returns
returns g c =
    on_ok_weaker c.print_networks-2.result
    (λ second. prints_networks c.args.out.now c.print_networks.new.out c.print_networks-2.new.out _ _
    (subst (λ ps. Appends c.args.out.now c.print_networks.new.out (networks_text (map V4 ps))) c.as_slice.ensures.value (c.in_ok-print_networks.ensures V4 (λ p q e. e)))
    (subst (λ ps. Appends c.print_networks.new.out c.print_networks-2.new.out (networks_text (map V6 ps))) c.as_slice-2.ensures.value (second V6 (λ p q e. e))))
    c.print_networks-2.ensures
