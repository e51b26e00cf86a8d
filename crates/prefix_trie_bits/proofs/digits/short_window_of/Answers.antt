-- The window of a key of at most 32 bits: one shift of the padded key gives its bits from `depth` on.
use Rattle.prefix_trie_bits.proofs.Prelude.{◌≡◌, ◌+◌, ◌-◌, ◌*◌, ◌/◌, ◌%◌, ◌^◌, sym, ap, ap₂, ◌∙◌, arith, mod-eq_of_lt, number-window, one_shl}
use Rattle.prefix_trie_bits.proofs.digits.short_window_of.Goals as goal

pub returns : goal.returns
returns c =
    let small = c.ranges.value.fits in
    let padded : c.from-padded.result * 32 % 18446744073709551616 ≡ c.args.value * 32 = mod-eq_of_lt (omega (arith, small, c.from-padded.ensures)) ∙ ap (λ x. x * 32) c.from-padded.ensures in
    ap₂ (λ x m. x / 2 ^ (c.args.width + 5 - (c.args.depth + c.args.n)) % m) padded (one_shl c.args.n 64 (omega (arith, c.requires.few))) ∙
    sym (number-window c.args.width c.args.value c.args.depth c.args.n c.requires.start c.requires.few)
