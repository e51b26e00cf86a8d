-- The networks of both families are printed.
use Rattle.std.proofs.Common.{◌≡◌, ℕ}
use Rattle.std.proofs.lemmas.Result.{on_ok_weaker}
use Rattle.prefix_trie_bits.specs.Networks.{network_back}
use Rattle.prefix_trie_joint.specs.declared.prefix.IpPrefix.{IpPrefix}
use Rattle.prefix_trie_joint.specs.declared.prefix.IpPrefix.TheVariants.{V4, V6}
use Rattle.route_tables.specs.Fewest.{IsFewest}
use Rattle.route_tables.proofs.Printing.{prints_both}
use Rattle.route_tables.proofs.commands.print_aggregate.Goals as goal

pub returns : goal.returns
returns g c =
    on_ok_weaker c.aggregate-2.result
    (prints_both (λ (p : ℕ × ℕ) (q : IpPrefix). q ≡ V4 p) (λ (p : ℕ × ℕ) (q : IpPrefix). q ≡ V6 p) (IsFewest 32 (network_back 32) c.args.table.now.ipv4.entries)
    (IsFewest 128 (network_back 128) c.args.table.now.ipv6.entries) (λ p q e. e) (λ p q e. e) c.args.out.now c.aggregate.new.out c.aggregate-2.new.out c.in_ok-aggregate.ensures) c.aggregate-2.ensures
