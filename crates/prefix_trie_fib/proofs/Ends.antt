-- Where ranges end, as numbers.
use Rattle.std.proofs.Common.{◌≡◌, ℕ, ◌^◌, ◌<◌, Bool, true, false, not, List, Option, None, Some, length, ap}
use Rattle.std.specs.Bool.{MatchBool}
use Rattle.prefix_trie_bits.specs.BitStrings.{number-below}
use Rattle.prefix_trie_bits.specs.Model.Bits.{number}
use Rattle.prefix_trie_fib.specs.Line.{end_of}

module _ {K : Type 0} (w : ℕ) (bits : K → List Bool) where
  pub end_of_all : (o : Option K) → o ≡ None → end_of w bits o ≡ 2 ^ w
  end_of_all o is = ap (end_of w bits) is

  pub end_at_key : (o : Option K) (k : K) → o ≡ Some k → end_of w bits o ≡ number (bits k)
  end_at_key o k is = ap (end_of w bits) is

  pub below_end : (k : K) → length (bits k) ≡ w → number (bits k) < 2 ^ w
  below_end k long = number-below w (bits k) long

pub match_true : (b : Bool) (P Q : Type 0) → b ≡ true → P → MatchBool b P Q
match_true true P Q e h = h
match_true false P Q e h = absurd (let x : false ≡ true = e in cc)

pub match_false : (b : Bool) (P Q : Type 0) → b ≡ false → Q → MatchBool b P Q
match_false true P Q e h = absurd (let x : true ≡ false = e in cc)
match_false false P Q e h = h

pub not_true : (b : Bool) → b ≡ true → not b ≡ false
not_true b e = ap not e
