-- The path of a half is the prefix's path and one more bit, which is 0 for the lower half and 1 for the upper.
use Rattle.std.proofs.Common.{◌≡◌, ◌∙◌, ◌+◌, ◌-◌, ◌≤◌, ◌++◌, ap, arith, take}
use Rattle.prefix_trie.specs.Terms.{digits, zeros}
use Rattle.prefix_trie_bits.specs.Keys.{path_length}
use Rattle.prefix_trie_ops.proofs.Optimal.Positions.{half_path, one_digit}
use Rattle.prefix_trie_ops.proofs.map.optimal.position.half.Goals as goal

pub returns-clause-path : goal.returns-clause-path
returns-clause-path g c =
    let laws = g.met.P.Prefix.prefix_laws in
    let p = c.args.prefix.now in
    let n = g.P.Prefix.len_of p in
    let bits = g.P.R.Key.bits in
    let tail = digits 1 c.args.bit in
    let rest = zeros (g.P.R.Key.bit_width - (c.from.result + 1)) in
    let depth : c.from.result ≡ n = c.from.ensures ∙ c.prefix_len-len.ensures in
    let within : c.prefix_len-len.result + 1 ≤ g.P.R.Key.bit_width = omega (arith, c.prefix_len-len.ensures, c.requires.short) in
    half_path (g.P.Prefix.path p) (bits (g.P.Prefix.repr_of p)) (g.P.Prefix.path c.from_repr_len.result) (bits c.extend-repr.result) rest n tail
    (laws.path_is p) (path_length laws p c.requires.fits) (one_digit c.args.bit)
    (c.extend-repr.ensures.value ∙ ap (λ k. take c.from.result (bits k) ++ tail ++ rest) c.repr.ensures ∙ ap (λ i. take i (bits (g.P.Prefix.repr_of p)) ++ tail ++ rest) depth)
    (ap g.P.Prefix.path c.from_repr_len.ensures ∙ laws.path_from_parts c.extend-repr.result (c.prefix_len-len.result + 1) c.extend-repr.ensures.key within
    ∙ ap (λ i. take (i + 1) (bits c.extend-repr.result)) c.prefix_len-len.ensures)
