-- Masking a byte keeps its first bits and makes the others 0, also if none is kept.
use Rattle.prefix_trie_tests.proofs.Prelude.{ℕ, ◌≡◌, ◌-◌, ◌*◌, ◌%◌, ◌^◌, ◌<◌, ◌≤◌, ◌++◌, take, bit_and, sub-le, ap, ◌∙◌, ones_shl, and_high_mask, digits, zeros, digits-keep, kept_of_none}
use Rattle.prefix_trie_tests.proofs.prefix.TagPrefix.mask.Goals as goal

-- The value of `value & (ones << (w - k))`.
digits-masked : (w v k : ℕ) → k ≤ w → v < 2 ^ w → digits w (bit_and v ((2 ^ w - 1) * 2 ^ (w - k) % 2 ^ w)) ≡ take k (digits w v) ++ zeros (w - k)
digits-masked w v k h small =
    ap (λ m. digits w (bit_and v m)) (ones_shl w (w - k) (sub-le w k)) ∙
    ap (λ x. digits w x) (and_high_mask w (w - k) (sub-le w k) v small) ∙
    digits-keep w v k h

pub returns-then-self-eq0-clause-value : goal.returns-then-self-eq0-clause-value
returns-then-self-eq0-clause-value c = kept_of_none 8 c.args.self.now.byte c.args.self.now.len c.if-self-eq0.true

pub returns-else-self-eq0-clause-value : goal.returns-else-self-eq0-clause-value
returns-else-self-eq0-clause-value c = digits-masked 8 c.args.self.now.byte c.args.self.now.len c.requires.1 c.requires.0
