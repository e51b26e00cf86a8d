-- A block begins at an address if the network of its first bits does, and fits if that ends in time.
use Rattle.std.proofs.Common.{◌≡◌, ◌≤◌, length, take, arith}
use Rattle.prefix_trie_bits.specs.Model.Bits.{number}
use Rattle.address_ranges.specs.Networks.{first_address}
use Rattle.address_ranges.proofs.Blocks.{block_fits, block_first, first_block, kept_first, match_false, match_with}
use Rattle.address_ranges.proofs.networks.blocks.is_block.Goals as goal

pub returns-then-is_at_most : goal.returns-then-is_at_most
returns-then-is_at_most g c =
    let w = g.K.Key.bit_width in
    let b = g.K.Key.bits c.args.at in
    let long : length b ≡ w = g.met.K.Key.key_laws.bits_length c.args.at c.is_key.ensures.key in
    let first : number b ≤ first_address w (take c.args.len b) =
    (let k = kept_first w b c.args.len long c.requires (g.K.Key.bits c.keep.result) c.keep.ensures.value in let le = c.if-is_at_most.ensures in omega (arith, k, le)) in
    let end = c.past_of.ensures.end (block_fits w b c.args.len long c.requires first) in
    match_with c.is_within.result _ _ _ _
    (λ le. first_block w b c.args.len long c.requires _ first (omega (arith, end, le)))
    (λ lt block. (let f = block.fits in omega (arith, end, lt, f))) c.is_within.ensures.order

pub returns-else-is_at_most : goal.returns-else-is_at_most
returns-else-is_at_most g c = match_false c.is_at_most.result _ _ c.if-is_at_most.false (λ block.
    let w = g.K.Key.bit_width in
    let b = g.K.Key.bits c.args.at in
    let long : length b ≡ w = g.met.K.Key.key_laws.bits_length c.args.at c.is_key.ensures.key in
    let k = kept_first w b c.args.len long c.requires (g.K.Key.bits c.keep.result) c.keep.ensures.value in
    let e = block_first w b c.args.len long c.requires block.quotient block.aligned in
    let lt = c.if-is_at_most.ensures in
    omega (arith, k, e, lt))
