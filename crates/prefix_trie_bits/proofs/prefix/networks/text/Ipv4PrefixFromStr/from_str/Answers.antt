-- The four ways in which `parse` of an IPv4 network ends, and why each is right for the text.
use Rattle.std.proofs.Common.{List, ℕ, Ok, subst, sym}
use Rattle.std.specs.declared.net.ipv4_addr.Ipv4Addr.{Ipv4Addr}
use Rattle.std.specs.Net.Addr.{ipv4_octets, ipv4_bits}
use Rattle.std.specs.Net.Grammar.{IsIpv4Text}
use Rattle.prefix_trie_bits.specs.Texts.{ParsesIpv4Network}
use Rattle.prefix_trie_bits.proofs.Texts.Slashes.{Free, Free-dotted}
use Rattle.prefix_trie_bits.proofs.Texts.ParseResults.{no_slash, invalid_address, invalid_length, parsed}
use Rattle.prefix_trie_bits.proofs.prefix.networks.text.Ipv4PrefixFromStr.from_str.Goals as goal

free : (front : List ℕ) (a : Ipv4Addr) → IsIpv4Text front a → Free front
free front a = Free-dotted front (ipv4_octets a)

pub returns-in_default : goal.returns-in_default
returns-in_default c = no_slash IsIpv4Text ipv4_bits 32 free c.args.text.now _ c.split_once.ensures.cases c.in_default.is

pub returns-in_default-parse : goal.returns-in_default-parse
returns-in_default-parse c =
    invalid_address IsIpv4Text ipv4_bits 32 free c.args.text.now (c.in-Some.address, c.in-Some.len) c.in-Some.ensures.cases c.in_default-parse.ensures.value

pub returns-in_default-read_decimal : goal.returns-in_default-read_decimal
returns-in_default-read_decimal c =
    invalid_length IsIpv4Text ipv4_bits 32 free c.args.text.now (c.in-Some.address, c.in-Some.len) c.in-Some.ensures.cases c.in-Ok.address c.in-Ok.ensures.value c.in_default-read_decimal.ensures

pub returns : goal.returns
returns c =
    let read = parsed IsIpv4Text ipv4_bits 32 free c.args.text.now (c.in-Some.address, c.in-Some.len) c.in-Some.ensures.cases c.in-Ok.address c.in-Some-read_decimal.len c.in-Ok.ensures.value c.in-Some-read_decimal.ensures.0 c.in-Some-read_decimal.ensures.1 in
    subst (λ (n : ℕ). ParsesIpv4Network c.args.text.now (Ok (n, c.in-Some-read_decimal.len))) (sym c.to_bits.ensures) read
