-- A table's row is the first four bits of the key, and its level is how many of them are bits of the string.
use Rattle.prefix_trie_bits.proofs.Prelude.{◌≤◌, ap, ◌∙◌, arith, length, take}
use Rattle.prefix_trie_bits.proofs.Strings.{front-small, level-string}
use Rattle.prefix_trie_bits.proofs.prefix.bit_string.BitString.table_place.Goals as goal

pub returns-clause-pos : goal.returns-clause-pos
returns-clause-pos g c = front-small (g.K.Key.bits c.key.result) 4 c.window.result (omega arith) c.window.ensures

pub returns-clause-string : goal.returns-clause-string
returns-clause-string g c =
    let b = g.K.Key.bits c.key.result in
    let long : c.len.result ≤ length b = omega (arith, g.met.K.Key.key_laws.bits_length c.key.result c.key.ensures.key, c.len.ensures.within) in
    level-string b c.len.result c.min.result c.window.result long c.min.ensures c.window.ensures
    ∙ ap (take 4) (ap (λ n. take n b) c.len.ensures.len ∙ c.key.ensures.bits)
