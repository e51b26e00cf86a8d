-- The first 30 bits, of which those before the part are shifted out to the left and those after it to the right.
use Rattle.std.proofs.Common.{◌≡◌, ◌∙◌, ◌+◌, ◌*◌, ◌^◌, ◌%◌, ◌/◌, ◌-◌, ap, take, arith, pow_pos}
use Rattle.std.proofs.lemmas.Nat.{mod_below}
use Rattle.prefix_trie_bits.specs.Model.Bits.{number}
use Rattle.prefix_trie_fib.proofs.Chunks.{field_shifted, part_number}
use Rattle.prefix_trie_fib.proofs.index.first_bits.part_of.Goals as goal

pub returns-clause-part : goal.returns-clause-part
returns-clause-part c = λ b top long.
    let bits = 30 - c.args.rest in
    let more = c.args.more in
    ap (λ n. number (take bits b) * 2 ^ more + n) (field_shifted c.args.top c.args.rest more (omega (arith, c.requires.rest)) c.requires.within)
    ∙ ap (λ n. number (take bits b) * 2 ^ more + c.args.top / 2 ^ n % 2 ^ more) (let e : c.args.rest - more ≡ 30 - (bits + more) = omega (arith, c.requires.rest, c.requires.within) in e)
    ∙ part_number b bits more c.args.top (omega (arith, c.requires.rest, c.requires.within)) long top

pub returns-clause-small : goal.returns-clause-small
returns-clause-small c =
    let more = c.args.more in
    let e = field_shifted c.args.top c.args.rest more (omega (arith, c.requires.rest)) c.requires.within in
    let small = mod_below (c.args.top / 2 ^ (c.args.rest - more)) (2 ^ more) (pow_pos more) in
    omega (arith, e, small)
