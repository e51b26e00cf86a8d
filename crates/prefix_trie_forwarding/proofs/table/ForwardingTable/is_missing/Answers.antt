-- A stored network matches its first address, so that the longest match there is no shorter.
use Rattle.std.proofs.Common.{◌≡◌, ◌∙◌, ◌+◌, ◌-◌, ◌*◌, ◌<◌, length, ap, arith, ltb-true}
use Rattle.prefix_trie_bits.specs.Begins.{begins-append}
use Rattle.prefix_trie_bits.specs.Keys.{path_length}
use Rattle.prefix_trie_bits.specs.Model.Bits.{begins, zeros}
use Rattle.prefix_trie_forwarding.proofs.Matches.{shorter_answer}
use Rattle.prefix_trie_forwarding.proofs.table.ForwardingTable.is_missing.Goals as goal

pub returns : goal.returns
returns g c = λ less.
    let p = g.P.Prefix.path c.args.prefix.now in
    let long : length (g.P.Prefix.path c.args.prefix.now) ≡ g.P.Prefix.len_of c.args.prefix.now = path_length g.met.P.Prefix.prefix_laws c.args.prefix.now c.requires in
    let small : c.answer.result < (c.from-len.result + 1) * 8388608 = ltb-true _ _ less in
    shorter_answer c.lookup_laws.ensures c.args.self.now.map.entries p (g.P.R.Key.bits c.mask.result)
    (ap (begins p) c.mask.ensures.value ∙ begins-append p (zeros (g.P.R.Key.bit_width - g.P.Prefix.len_of c.args.prefix.now)))
    (omega (arith, small, c.answer.ensures.answer, c.from-len.ensures, c.prefix_len.ensures, long))
