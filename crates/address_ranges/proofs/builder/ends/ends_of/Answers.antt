-- No network passes the end of all addresses.
use Rattle.std.proofs.Common.{◌≡◌, ◌∙◌, ◌-◌, ◌^◌, ◌++◌, ap, arith, length, sym}
use Rattle.prefix_trie_bits.specs.Keys.{path_length, path_within}
use Rattle.prefix_trie_bits.specs.Model.Bits.{number, zeros}
use Rattle.address_ranges.specs.Networks.{first_address}
use Rattle.address_ranges.proofs.Blocks.{past_within}
use Rattle.address_ranges.proofs.builder.ends.ends_of.Goals as goal

pub returns-clause-past : goal.returns-clause-past
returns-clause-past g c =
    let w = g.P.R.Key.bit_width in
    let bits = g.P.R.Key.bits in
    let s = g.P.Prefix.path c.args.network.now in
    let laws = g.met.P.Prefix.prefix_laws in
    let long : length (g.P.Prefix.path c.args.network.now) ≡ g.P.Prefix.len_of c.args.network.now = path_length laws c.args.network.now c.requires in
    let first : number (bits c.mask-first.result) ≡ first_address w (g.P.Prefix.path c.args.network.now) =
    ap number (c.mask-first.ensures.value ∙ ap (λ n. s ++ zeros (w - n)) (sym long)) in
    let size = ap (λ n. 2 ^ (w - n)) (long ∙ sym c.prefix_len.ensures ∙ sym c.from.ensures) in
    let by = past_within w s (path_within laws c.args.network.now c.requires) in
    let e = c.past_of.ensures.end (omega (arith, first, size, by)) in
    omega (arith, e, first, size)
