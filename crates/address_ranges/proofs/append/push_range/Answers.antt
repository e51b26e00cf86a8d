-- The last range has the addresses, or the range comes after it, or it is moved up to the end of the range.
use Rattle.std.proofs.Common.{◌^◌, ◌<◌, arith, length, subst, ℕ}
use Rattle.std.proofs.lemmas.Bool.{eq-eqb}
use Rattle.std.proofs.lemmas.Result.{IfOk-weaker}
use Rattle.std.specs.List.{slice_index}
use Rattle.prefix_trie_bits.specs.BitStrings.{number-below}
use Rattle.prefix_trie_bits.specs.Model.Bits.{number}
use Rattle.address_ranges.specs.Appends.{EndsFrom, end_of}
use Rattle.address_ranges.specs.Breaks.{numbers}
use Rattle.address_ranges.proofs.Appends.{adds_after, adds_extended, adds_none, is_even}
use Rattle.address_ranges.proofs.Keys.{as_many}
use Rattle.address_ranges.proofs.append.push_range.Goals as goal

pub returns-then-len-eq1-clause-added : goal.returns-then-len-eq1-clause-added
returns-then-len-eq1-clause-added g c =
    let w = g.K.Key.bit_width in
    let bits = g.K.Key.bits in
    let old = c.args.breaks.now.items in
    let fits : number (bits c.args.first) < 2 ^ w = number-below w (bits c.args.first) (g.met.K.Key.key_laws.bits_length c.args.first c.is_key.ensures.key) in
    let many = as_many bits old in
    adds_none w (number (bits c.args.first)) (end_of w bits c.args.past) fits (numbers bits old) c.requires.breaks c.requires.starts
    (eq-eqb _ 1 (let e = c.len.ensures in let o = c.if-len-eq1.true in omega (arith, many, e, o, c.args.breaks.now.ok.0)))

pub returns-then-is_past-clause-added : goal.returns-then-is_past-clause-added
returns-then-is_past-clause-added g c =
    let w = g.K.Key.bit_width in
    let bits = g.K.Key.bits in
    let old = c.args.breaks.now.items in
    let first = number (g.K.Key.bits c.args.first) in
    let fits : number (bits c.args.first) < 2 ^ w = number-below w (bits c.args.first) (g.met.K.Key.key_laws.bits_length c.args.first c.is_key.ensures.key) in
    let many = as_many bits old in
    IfOk-weaker c.append.result _ _
    (λ _ is. adds_after bits w first fits (numbers bits old) _ c.requires.breaks
    (is_even (numbers bits old) c.len.result (let e = c.len.ensures in omega (arith, many, e, c.args.breaks.now.ok.0)) c.if-len-eq1.false)
    c.args.past (subst (λ ks. (k : ℕ) → k < length (numbers bits ks) → slice_index (numbers bits ks) k < first) c.deref.ensures.value c.if-is_past.ensures) c.requires.some c.is_end.ensures is) c.append.ensures.appended

pub returns-clause-added : goal.returns-clause-added
returns-clause-added g c =
    let w = g.K.Key.bit_width in
    let bits = g.K.Key.bits in
    let old = c.args.breaks.now.items in
    let first = number (g.K.Key.bits c.args.first) in
    let fits : number (bits c.args.first) < 2 ^ w = number-below w (bits c.args.first) (g.met.K.Key.key_laws.bits_length c.args.first c.is_key.ensures.key) in
    let many = as_many bits old in
    adds_extended bits w first fits (numbers bits old) _ c.requires.breaks
    (is_even (numbers bits old) c.len.result (let e = c.len.ensures in omega (arith, many, e, c.args.breaks.now.ok.0)) c.if-len-eq1.false)
    c.args.past (subst (λ ks. EndsFrom first (numbers bits ks)) c.deref.ensures.value c.if-is_past.ensures) c.requires.starts c.is_end.ensures c.extend.ensures
