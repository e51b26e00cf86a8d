-- Entries of chunks: the entry of an address, the ranges of a chunk, and the sixteenths of one with a bitmap.
use Rattle.std.proofs.Common.{◌≡◌, ◌∙◌, ap, ℕ, ◌+◌, ◌*◌, ◌^◌, ◌<◌, Bool, List, length, take, get_or, Option, subst, sym, arith, ◌-◌, ◌≤◌, None, inl, inr, ◌/◌, ◌%◌}
use Rattle.std.proofs.Math.Nat.{add-mul}
use Rattle.std.proofs.lemmas.Bool.{cases_lt}
use Rattle.std.proofs.lemmas.List.{length-take-le}
use Rattle.prefix_trie_bits.specs.BitStrings.{number-below}
use Rattle.prefix_trie_bits.specs.Bitmaps.{rank}
use Rattle.prefix_trie_bits.specs.Model.Bits.{number}
use Rattle.prefix_trie_fib.specs.Compiled.{IsCompiled}
use Rattle.prefix_trie_fib.specs.Index.{IsChunk, IsEntry, IsEntryAt, IsSplit, IsWhole, IsTop}
use Rattle.prefix_trie_fib.specs.Line.{IsDivision, value_along}
use Rattle.prefix_trie_fib.specs.Search.{EndsBy, IsAmong, StartsBy, IsRangeOf}
use Rattle.prefix_trie_fib.specs.declared.index.chunk.Chunk.{Chunk}
use Rattle.prefix_trie_fib.specs.declared.index.chunk.Chunk.TheVariants.{Split}
use Rattle.prefix_trie_fib.proofs.Chunks.{in_chunk, part_number}
use Rattle.prefix_trie_fib.proofs.Entries.{entry_of_whole, starts_later, split_at}
use Rattle.prefix_trie_fib.proofs.RangeValues.{value_of_range}

-- ---- the entry of an address: that of its chunk, or of its part of a chunk that is split

module _ {T : Type 0} (w : ℕ) (rs : List (ℕ × Option T)) (chunks parts : List (Chunk T)) (bits : ℕ) (b : List Bool) (are : IsCompiled w rs chunks parts bits) (long : length b ≡ w) (k : ℕ) (is : k ≡ number (take bits b)) where
  pub chunk_inside : k < length chunks
  chunk_inside =
      let within = are.sized.within in
      let below = number-below bits (take bits b) (length-take-le bits b (omega (arith, long, within))) in
      let all = are.long in
      omega (arith, all, is, below)

  module _ (x : Chunk T) (at : x ≡ get_or chunks k x) where
    entry_is : IsEntry w bits rs parts k x
    entry_is = subst (IsEntry w bits rs parts k) (sym at) (are.right k x chunk_inside)

    pub parts_of : (more base : ℕ) → x ≡ Split more base → IsSplit w bits rs parts k more base
    parts_of more base split = subst (IsEntry w bits rs parts k) split entry_is

    pub in_part : (more base : ℕ) → x ≡ Split more base → (p : ℕ) (y : Chunk T) → p < 2 ^ more → number (take bits b) * 2 ^ more + p ≡ number (take (bits + more) b) → y ≡ get_or parts (base + p) y → IsEntryAt rs b y
    in_part more base split p y small joined there =
        subst (IsChunk w (bits + more) rs (k * 2 ^ more + p)) (sym there) ((parts_of more base split).has_parts.right p y small) b long
        (sym joined ∙ ap (λ n. n * 2 ^ more + p) (sym is))

    pub in_whole : IsWhole x → IsEntryAt rs b x
    in_whole whole = entry_of_whole rs w bits k parts x whole entry_is b long (sym is)

-- ---- the ranges of a chunk

module _ {V : Type 0} (w bits c low : ℕ) (rs : List (ℕ × V)) (first count : ℕ) (b : List Bool) (starts : StartsBy rs first low) (is_low : low ≡ c * 2 ^ (w - bits)) (ends : EndsBy rs (first + count) ((c + 1) * 2 ^ (w - bits)))
    (long : length b ≡ w) (in_it : number (take bits b) ≡ c) where
  bounds : (low ≤ number b) × (number b < (c + 1) * 2 ^ (w - bits))
  bounds =
      let (lo, hi) = in_chunk w b bits long in
      let lo' : c * 2 ^ (w - bits) ≤ number b = subst (λ n. n * 2 ^ (w - bits) ≤ number b) in_it lo in
      (omega (arith, lo', is_low), subst (λ n. number b < (n + 1) * 2 ^ (w - bits)) in_it hi)

  pub starts_by : StartsBy rs first (number b)
  starts_by = starts_later rs first low (number b) bounds.0 starts

  pub is_among : 0 < count → first + count ≤ length rs → IsAmong rs first count (number b)
  is_among some inside = record {
    starts = starts_by;
    some = some;
    inside = inside;
    above = λ k d le in_rs. let e = ends k d le in_rs in let hi = bounds.1 in omega (arith, e, hi);
  }

-- where no range after the first one starts in the chunk, all of it has the value of the first
pub alone_value : {T : Type 0} (w bits c low : ℕ) (rs : List (ℕ × Option T)) → IsDivision rs → (first count : ℕ) (b : List Bool) (d : ℕ × Option T) → StartsBy rs first low → low ≡ c * 2 ^ (w - bits)
    → EndsBy rs (first + count) ((c + 1) * 2 ^ (w - bits)) → count ≤ 1 → length b ≡ w → number (take bits b) ≡ c → value_along None rs (number b) ≡ (get_or rs first d).1
alone_value w bits c low rs division first count b d starts is_low ends one long in_it = value_of_range rs division None first (number b) d (record {
  starts = starts_by w bits c low rs first count b starts is_low ends long in_it;
  ends = λ e more. let k = ends (first + 1) e (omega (arith, one)) more in let hi = (bounds w bits c low rs first count b starts is_low ends long in_it).1 in omega (arith, k, hi);
})

-- ---- chunks with a bitmap

-- the range of each number in the first sixteenths is the one that the bits up to the sixteenth give
abbrev pub AreStarts : {V : Type 0} → List (ℕ × V) → (starts first low step count : ℕ) → Type 0
AreStarts rs starts first low step count = (p n : ℕ) → p < count → low + p * step ≤ n → n < low + (p + 1) * step → IsRangeOf rs (first + rank starts (p + 1)) n

pub next_start : {V : Type 0} (rs : List (ℕ × V)) (starts first low step i at : ℕ) → at ≡ low + i * step → AreStarts rs starts first low step i
    → ((n : ℕ) → at ≤ n → n < at + step → IsRangeOf rs (first + rank starts (i + 1)) n) → AreStarts rs starts first low step (i + 1)
next_start rs starts first low step i at is before here p n lt from to = elim (cases_lt p i) [
  | inl older ↦ before p n older from to
  | inr new ↦
      let e : p ≡ i = omega (arith, lt, new) in
      let from' : low + i * step ≤ n = subst (λ k. low + k * step ≤ n) e from in
      let to' : n < low + (i + 1) * step = subst (λ k. n < low + (k + 1) * step) e to in
      let one : (i + 1) * step ≡ i * step + step = omega arith in
      subst (λ k. IsRangeOf rs (first + rank starts (k + 1)) n) (sym e) (here n (omega (arith, from', is)) (omega (arith, to', is, one)))
]

module _ (w depth c low : ℕ) (b : List Bool) (top : ℕ) (few : depth ≤ 26) (within : depth + 4 ≤ w) (long : length b ≡ w) (is_top : IsTop top b) (in_it : number (take depth b) ≡ c) (is_low : low ≡ c * 2 ^ (w - depth)) where
  -- an address is in the sixteenth of its chunk that the four bits after those of the chunk say
  pub in_sixteenth : (low + top / 2 ^ (26 - depth) % 16 * 2 ^ (w - (depth + 4)) ≤ number b) × (number b < low + (top / 2 ^ (26 - depth) % 16 + 1) * 2 ^ (w - (depth + 4)))
  in_sixteenth =
      let size : ℕ = 2 ^ (w - (depth + 4)) in
      let p : ℕ = top / 2 ^ (26 - depth) % 16 in
      let rest : 30 - (depth + 4) ≡ 26 - depth = omega arith in
      let joined : number (take depth b) * 16 + top / 2 ^ (30 - (depth + 4)) % 16 ≡ number (take (depth + 4) b) = part_number b depth 4 top (omega (arith, few)) (omega (arith, within, long)) is_top in
      let at : number (take (depth + 4) b) ≡ c * 16 + p = sym joined ∙ ap (λ k. number (take depth b) * 16 + top / 2 ^ k % 16) rest ∙ ap (λ k. k * 16 + p) in_it in
      let bounds = in_chunk w b (depth + 4) long in
      let from : (c * 16 + p) * size ≤ number b = subst (λ n. n * size ≤ number b) at bounds.0 in
      let to : number b < (c * 16 + p + 1) * size = subst (λ n. number b < (n + 1) * size) at bounds.1 in
      let low_is : low ≡ c * 16 * size = split_at w depth 4 c low within is_low in
      let sum : (c * 16 + p) * size ≡ c * 16 * size + p * size = add-mul (c * 16) p size in
      let one : (p + 1) * size ≡ p * size + size = omega arith in
      let past : (c * 16 + p + 1) * size ≡ (c * 16 + p) * size + size = omega arith in
      (omega (arith, from, low_is, sum), omega (arith, to, low_is, sum, one, past))
