-- A text without a colon that is no IPv4 network: it is no network at all.
use Rattle.prefix_trie_joint.proofs.Texts.{no_colon, of_neither}
use Rattle.prefix_trie_joint.proofs.prefix.text.IpPrefixFromStr.from_str.Goals as goal

pub returns-else-contains : goal.returns-else-contains
returns-else-contains c = record {
  network = of_neither c.args.text.now c.in-Err.ensures.value.network c.in-Err-parse.ensures.value.network;
  ipv4 = λ _. c.in-Err.ensures.value;
  ipv6 = λ colon. absurd (no_colon c.args.text.now c.contains.result c.contains.ensures.cases c.if-contains.false colon);
}
