-- What `extend` computes on 64 bits for a shorter key does not overflow, is a key, and has the bits that it should.
use Rattle.prefix_trie_bits.proofs.Prelude.{◌≡◌, ◌+◌, ◌-◌, ◌*◌, ◌/◌, ◌%◌, ◌^◌, ◌<◌, sym, ap, ap₂, ◌∙◌, subst, arith, rules, lt_of_lt_of_le, pow_mono, shl_whole, digits, digits-extend, extend-below}
use Rattle.prefix_trie_bits.proofs.digits.short_extend_of.Goals as goal
use Rattle.prefix_trie_bits.proofs.digits.short_extend_of.Goals.{After-from}

-- the sum that the code computes is the wanted bits of the value
sum-is : (c : After-from) → c.short_keep_of.result + c.from.result * 2 ^ (c.args.width - (c.args.depth + c.args.n)) % 2 ^ 64 ≡ c.args.value / 2 ^ (c.args.width - c.args.depth) * 2 ^ (c.args.width - c.args.depth) + c.args.tail * 2 ^ (c.args.width - (c.args.depth + c.args.n))
sum-is c =
    ap₂ (λ x y. x + y * 2 ^ (c.args.width - (c.args.depth + c.args.n)) % 2 ^ 64) c.short_keep_of.ensures.number_is c.from.ensures ∙
    ap (λ y. c.args.value / 2 ^ (c.args.width - c.args.depth) * 2 ^ (c.args.width - c.args.depth) + y)
    (shl_whole c.args.tail c.args.n (c.args.width - (c.args.depth + c.args.n)) 64 c.requires.tail_fits (omega arith))

sum-below : (c : After-from) → c.short_keep_of.result + c.from.result * 2 ^ (c.args.width - (c.args.depth + c.args.n)) % 2 ^ 64 < 2 ^ c.args.width
sum-below c =
    subst (λ x. x < 2 ^ c.args.width) (sym (sum-is c))
    (extend-below c.args.width c.args.value c.args.depth c.args.n c.args.tail c.requires.within c.requires.fits c.requires.tail_fits)

sum-short : (c : After-from) → c.short_keep_of.result + c.from.result * 2 ^ (c.args.width - (c.args.depth + c.args.n)) % 2 ^ 64 < 2 ^ 32
sum-short c = lt_of_lt_of_le (sum-below c) (pow_mono c.requires.narrow)

pub overflow_cast-result-2 : goal.overflow_cast-result-2
overflow_cast-result-2 c =
    let below = sum-short c in
    let shifted : c.from.result * 2 ^ (c.args.width - (c.args.depth + c.args.n)) % 2 ^ 64 < 2 ^ 32 = omega (arith, below) in
    search rules

pub overflow_add-result : goal.overflow_add-result
overflow_add-result c =
    let below = sum-short (goal.at.overflow_add-result c).After-from in
    search rules

pub returns-clause-key : goal.returns-clause-key
returns-clause-key c = sum-below (goal.at.returns-clause-key c).After-from

pub returns-clause-bits_are : goal.returns-clause-bits_are
returns-clause-bits_are c =
    ap (λ x. digits c.args.width x) (sum-is (goal.at.returns-clause-bits_are c).After-from) ∙
    digits-extend c.args.width c.args.value c.args.depth c.args.n c.args.tail c.requires.within c.requires.tail_fits
