-- An entry of the whole chunk, or its parts.
use Rattle.std.proofs.Common.{◌≡◌, ◌∙◌, ◌+◌, ◌-◌, ◌*◌, ◌^◌, ◌%◌, ◌≤◌, None, ap, arith, length, subst, sym}
use Rattle.std.proofs.lemmas.Nat.{one_shl}
use Rattle.prefix_trie_bits.specs.Model.Bits.{number}
use Rattle.prefix_trie_fib.specs.Index.{HasParts}
use Rattle.prefix_trie_fib.proofs.Entries.{split_at, split_size, whole_entry}
use Rattle.prefix_trie_fib.proofs.Sizes.{not_after}
use Rattle.prefix_trie_fib.proofs.index.entry_at.Goals as goal

pub returns-in_default-clause-right : goal.returns-in_default-clause-right
returns-in_default-clause-right g c = λ k is up.
    let entry = c.chunk_with-entry.ensures in
    whole_entry c.args.line.now g.K.Key.bit_width c.args.bits k c.args.parts.now.items c.chunk_with-entry.result entry.whole
    (entry.right k is (c.count_until-count.ensures.above ((k + 1) * 2 ^ (g.K.Key.bit_width - c.args.bits)) up))

pub push_parts-requires-clause-within : goal.push_parts-requires-clause-within
push_parts-requires-clause-within g c = let (some, few, within, size) = c.in-Some.ensures in omega (arith, within, c.width.ensures)

pub push_parts-requires-clause-fits : goal.push_parts-requires-clause-fits
push_parts-requires-clause-fits g c =
    let w = g.K.Key.bit_width in
    let bits = c.args.bits in
    let more = c.in-Some.more in
    let (some, few, within, size) = c.in-Some.ensures in
    let count : 1 * 2 ^ more % 2 ^ 64 ≡ 2 ^ more = one_shl more 64 (omega (arith, few)) in
    subst (λ n. number (g.K.Key.bits c.args.low) + n ≤ 2 ^ w) (sym (ap (λ m. m * 2 ^ (w - (bits + more))) count ∙ split_size w bits more (omega (arith, within, c.width.ensures)))) c.requires.line

pub returns-in_ok-push_parts-in-Some-clause-right : goal.returns-in_ok-push_parts-in-Some-clause-right
returns-in_ok-push_parts-in-Some-clause-right g c = λ k is up.
    let w = g.K.Key.bit_width in
    let bits = c.args.bits in
    let more = c.in-Some.more in
    let rs = c.args.line.now in
    let parts = c.push_parts.new.parts.items in
    let old = c.args.parts.now.items in
    let (some, few, within, size) = c.in-Some.ensures in
    let fits : bits + more ≤ w = omega (arith, within, c.width.ensures) in
    let count : 1 * 2 ^ more % 2 ^ 64 ≡ 2 ^ more = one_shl more 64 (omega (arith, few)) in
    let base : length old ≡ c.len-base.result = omega (arith, c.len-base.ensures, c.args.parts.now.ok.0) in
    record {
      some = some;
      few = few;
      within = fits;
      has_parts = subst (λ b. HasParts w (bits + more) rs (2 ^ more) parts b (k * 2 ^ more)) base
          (subst (λ n. HasParts w (bits + more) rs n parts (length old) (k * 2 ^ more)) count
          (c.in_ok-push_parts-in-Some.ensures.right (k * 2 ^ more) (split_at w bits more k (number (g.K.Key.bits c.args.low)) fits is)));
    }

pub returns-in_default-clause-few : goal.returns-in_default-clause-few
returns-in_default-clause-few g c = λ i of.
    let le = not_after g.K.Key.bits c.args.line.now c.requires.division (0, None) c.args.first (number (g.K.Key.bits c.args.low)) i c.args.next c.requires.starts c.requires.up of in
    omega (arith, le)

pub returns-in_ok-push_parts-in-Some-clause-few : goal.returns-in_ok-push_parts-in-Some-clause-few
returns-in_ok-push_parts-in-Some-clause-few g c = λ i of.
    let more = c.in-Some.more in
    let (some, few, within, size) = c.in-Some.ensures in
    let count : 1 * 2 ^ more % 2 ^ 64 ≡ 2 ^ more = one_shl more 64 (omega (arith, few)) in
    let ends = c.count_until-count.ensures.few i of in
    let long = c.in_ok-push_parts-in-Some.ensures.long in
    omega (arith, ends, long, count, size)
