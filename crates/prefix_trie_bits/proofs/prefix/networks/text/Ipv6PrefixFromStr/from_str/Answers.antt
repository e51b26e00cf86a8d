-- The four ways in which `parse` of an IPv6 network ends, and why each is right for the text.
use Rattle.std.proofs.Common.{List, ℕ, Ok, subst, sym}
use Rattle.std.specs.declared.net.ipv6_addr.Ipv6Addr.{Ipv6Addr}
use Rattle.std.specs.Net.Addr.{ipv6_segments, ipv6_bits}
use Rattle.std.specs.Net.Grammar.{IsIpv6Text}
use Rattle.prefix_trie_bits.specs.Texts.{ParsesIpv6Network}
use Rattle.prefix_trie_bits.proofs.Texts.Slashes.{Free, Free-colon_hex}
use Rattle.prefix_trie_bits.proofs.Texts.ParseResults.{no_slash, invalid_address, invalid_length, parsed}
use Rattle.prefix_trie_bits.proofs.prefix.networks.text.Ipv6PrefixFromStr.from_str.Goals as goal

free : (front : List ℕ) (a : Ipv6Addr) → IsIpv6Text front a → Free front
free front a = Free-colon_hex front (ipv6_segments a)

pub returns-in_default : goal.returns-in_default
returns-in_default c = no_slash IsIpv6Text ipv6_bits 128 free c.args.text.now _ c.split_once.ensures.cases c.in_default.is

pub returns-in_default-parse : goal.returns-in_default-parse
returns-in_default-parse c =
    invalid_address IsIpv6Text ipv6_bits 128 free c.args.text.now (c.in-Some.address, c.in-Some.len) c.in-Some.ensures.cases c.in_default-parse.ensures.value

pub returns-in_default-read_decimal : goal.returns-in_default-read_decimal
returns-in_default-read_decimal c =
    invalid_length IsIpv6Text ipv6_bits 128 free c.args.text.now (c.in-Some.address, c.in-Some.len) c.in-Some.ensures.cases c.in-Ok.address c.in-Ok.ensures.value c.in_default-read_decimal.ensures

pub returns : goal.returns
returns c =
    let read = parsed IsIpv6Text ipv6_bits 128 free c.args.text.now (c.in-Some.address, c.in-Some.len) c.in-Some.ensures.cases c.in-Ok.address c.in-Some-read_decimal.len c.in-Ok.ensures.value c.in-Some-read_decimal.ensures.0 c.in-Some-read_decimal.ensures.1 in
    subst (λ (n : ℕ). ParsesIpv6Network c.args.text.now (Ok (n, c.in-Some-read_decimal.len))) (sym c.to_bits.ensures) read
