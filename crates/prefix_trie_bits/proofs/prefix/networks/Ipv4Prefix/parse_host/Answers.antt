-- A text without a slash is read as an address, so the result is its network or an error.
use Rattle.std.proofs.Common.{ℕ, Ok, subst, sym}
use Rattle.std.specs.Net.Addr.{ipv4_bits}
use Rattle.std.specs.Net.Grammar.{IsIpv4Text}
use Rattle.prefix_trie_bits.specs.Texts.{ParsesIpv4Host}
use Rattle.prefix_trie_bits.proofs.Texts.Hosts.{as_host, as_none}
use Rattle.prefix_trie_bits.proofs.prefix.networks.Ipv4Prefix.parse_host.Goals as goal

pub returns-in_default : goal.returns-in_default
returns-in_default c =
    as_none IsIpv4Text ipv4_bits 32 c.args.text.now c.split_once.result c.split_once.ensures.cases (sym c.if-is_some.ensures) c.in_default.ensures.value

pub returns : goal.returns
returns c =
    let host = as_host IsIpv4Text ipv4_bits 32 c.args.text.now c.split_once.result c.split_once.ensures.cases (sym c.if-is_some.ensures) c.in-Ok.address c.in-Ok.ensures.value in
    subst (λ (network : ℕ × ℕ). ParsesIpv4Host c.args.text.now (Ok network)) (sym c.from.ensures) host
