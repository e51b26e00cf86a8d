-- A text without a slash is read as an address, so the result is its network or an error.
use Rattle.std.proofs.Common.{ℕ, Ok, subst, sym}
use Rattle.std.specs.Net.Addr.{ipv6_bits}
use Rattle.std.specs.Net.Grammar.{IsIpv6Text}
use Rattle.prefix_trie_bits.specs.Texts.{ParsesIpv6Host}
use Rattle.prefix_trie_bits.proofs.Texts.Hosts.{as_host, as_none}
use Rattle.prefix_trie_bits.proofs.prefix.networks.Ipv6Prefix.parse_host.Goals as goal

pub returns-in_default : goal.returns-in_default
returns-in_default c =
    as_none IsIpv6Text ipv6_bits 128 c.args.text.now c.split_once.result c.split_once.ensures.cases (sym c.if-is_some.ensures) c.in_default.ensures.value

pub returns : goal.returns
returns c =
    let host = as_host IsIpv6Text ipv6_bits 128 c.args.text.now c.split_once.result c.split_once.ensures.cases (sym c.if-is_some.ensures) c.in-Ok.address c.in-Ok.ensures.value in
    subst (λ (network : ℕ × ℕ). ParsesIpv6Host c.args.text.now (Ok network)) (sym c.from.ensures) host
