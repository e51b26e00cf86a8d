-- A text without a colon is read as an IPv4 network or address.
use Rattle.std.proofs.Common.{refl}
use Rattle.std.proofs.lemmas.Result.{err_from_is_err_and}
use Rattle.prefix_trie_joint.proofs.Texts.{no_colon}
use Rattle.prefix_trie_joint.proofs.prefix.IpPrefix.parse_host.Goals as goal

pub returns-in_ok-parse_host-2 : goal.returns-in_ok-parse_host-2
returns-in_ok-parse_host-2 c = record {
  ipv4 = λ _. (c.in_ok-parse_host-2.field-0, refl, c.in_ok-parse_host-2.ensures);
  ipv6 = λ colon. absurd (no_colon c.args.text.now c.contains.result c.contains.ensures.cases c.if-contains.false colon);
}

pub returns-in_err-parse_host-2 : goal.returns-in_err-parse_host-2
returns-in_err-parse_host-2 c =
    let p = err_from_is_err_and c.from_residual-in_err-parse_host-2.result c.from_residual-in_err-parse_host-2.ensures.1 in
    rw (p.1, p.2) (record {
      ipv4 = λ _. c.in_err-parse_host-2.ensures;
      ipv6 = λ colon. absurd (no_colon c.args.text.now c.contains.result c.contains.ensures.cases c.if-contains.false colon);
    })
