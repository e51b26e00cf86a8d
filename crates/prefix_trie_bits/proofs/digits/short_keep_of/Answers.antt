-- What `keep` computes on 64 bits for a shorter key has the bits that it should.
use Rattle.prefix_trie_bits.proofs.Prelude.{◌-◌, ◌*◌, ◌/◌, ◌%◌, ◌^◌, ap, ◌∙◌, arith, digits}
use Rattle.prefix_trie_bits.specs.BitStrings.{kept_of_64}
use Rattle.prefix_trie_bits.proofs.digits.short_keep_of.Goals as goal

pub returns-clause-bits_are : goal.returns-clause-bits_are
returns-clause-bits_are c =
    ap (λ x. digits c.args.width (x / 2 ^ (c.args.width - c.args.len) * 2 ^ (c.args.width - c.args.len) % 2 ^ 64)) c.from.ensures ∙
    kept_of_64 c.args.width c.args.value c.args.len c.requires.within (omega arith)
