-- A tag contains another exactly if it is no longer and both have the same first bits, which the masked bytes show.
use Rattle.prefix_trie_tests.proofs.Prelude.{◌≡◌, ◌-◌, ◌++◌, ◌≤◌, eqb, refl, length, take, ap, ap₂, sym, ◌∙◌, arith, eqb-true, eq-eqb, digits, zeros, begins, number, number-bits, bits-length, same_bool, begins-longer, begins-from-masked, masked-from-begins, length-first, leb-past}
use Rattle.prefix_trie_tests.proofs.prefix.TagPrefix.contains.Goals as goal

pub returns-then-self-other : goal.returns-then-self-other
returns-then-self-other c =
    let s = take c.args.self.now.len (digits 8 c.args.self.now.byte) in
    let a = digits 8 c.args.other.now.byte in
    let long : length s ≡ c.args.self.now.len = length-first s _ 8 _ refl (bits-length 8 _ c.requires.fits.0) c.requires.fits.1 in
    let within : length s ≤ c.args.other.now.len = omega (arith, long, c.if-self-other.true) in
    let z = zeros (8 - c.args.self.now.len) in
    let kept : digits 8 c.keep.result ≡ take (length s) a ++ z = c.keep.ensures.value ∙ ap₂ (λ n m. take n a ++ zeros (8 - m)) (c.from.ensures ∙ sym long) c.from.ensures in
    let masked : digits 8 c.mask.result ≡ s ++ z = c.mask.ensures.value in
    same_bool (eqb c.mask.result c.keep.result) (begins s (take c.args.other.now.len a))
    (λ e. begins-from-masked s a z c.args.other.now.len within
    (sym kept ∙ ap (λ x. digits 8 x) (sym (eqb-true c.mask.result c.keep.result e)) ∙ masked))
    (λ e. eq-eqb c.mask.result c.keep.result
    (sym (number-bits 8 c.mask.result c.mask.ensures.key) ∙
    ap number (masked ∙ sym (masked-from-begins s a z c.args.other.now.len within e) ∙ sym kept) ∙
    number-bits 8 c.keep.result c.keep.ensures.key))

pub returns-else-self-other : goal.returns-else-self-other
returns-else-self-other c =
    let s = take c.args.self.now.len (digits 8 c.args.self.now.byte) in
    let t = take c.args.other.now.len (digits 8 c.args.other.now.byte) in
    let long : length s ≡ c.args.self.now.len = length-first s _ 8 _ refl (bits-length 8 _ c.requires.fits.0) c.requires.fits.1 in
    let olong : length t ≡ c.args.other.now.len = length-first t _ 8 _ refl (bits-length 8 _ c.requires.other_fits.0) c.requires.other_fits.1 in
    leb-past _ _ c.if-self-other.false ∙ sym (begins-longer s t (omega (arith, long, olong, c.if-self-other.false)))
