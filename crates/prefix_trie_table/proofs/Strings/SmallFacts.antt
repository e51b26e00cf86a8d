-- Small facts on numbers, Booleans and options.
use Rattle.prefix_trie_table.proofs.Prelude.{◌≡◌, ℕ, ◌+◌, ◌*◌, ◌/◌, ◌%◌, ◌≤◌, Bool, true, false, ◌&&◌, Option, None, Some, is_some, refl, arith, false≢true, Node, has_child, has_value}

pub no_or_yes : (b : Bool) → (b ≡ true → ⊥) → b ≡ false
no_or_yes true h = absurd (h refl)
no_or_yes false h = refl

pub both_true : (a b : Bool) → a ≡ true → b ≡ true → (a && b) ≡ true
both_true true b h k = k
both_true false b h k = absurd (false≢true h)

pub some_same : (a b : ℕ) → Some a ≡ Some b → a ≡ b
some_same a b e = cc

-- a multiple of five has no rest
pub whole_levels : (d l : ℕ) → d ≡ 5 * l → d % 5 ≡ 0
whole_levels d l e = omega (arith, e)

pub whole_more : (a b c : ℕ) → a % 5 ≡ 0 → b ≡ 5 → c ≡ a + b → c % 5 ≡ 0
whole_more a b c h k l = omega (arith, h, k, l)

pub fifth_more : (a b : ℕ) → a % 5 ≡ 0 → b % 5 ≡ 0 → a ≤ b → (b ≡ a → ⊥) → a + 5 ≤ b
fifth_more a b h k l n = omega (arith, h, k, l, n)

pub five_times : (l k : ℕ) → l % 5 ≡ 0 → k ≡ l / 5 → l ≡ 5 * k
five_times l k e f = omega (arith, e, f)

pub fifths : (l k n : ℕ) → k ≤ n → n ≡ l / 5 → 5 * k ≤ l
fifths l k n h e = omega (arith, h, e)

-- a node that has a child exists
pub needs_node : (o : Option Node) (c : ℕ) → has_child o c ≡ true → is_some o ≡ true
needs_node None c h = absurd (false≢true h)
needs_node (Some n) c h = refl

-- a node that has a value exists
pub some_node : (o : Option Node) (b : ℕ) → has_value o b ≡ true → is_some o ≡ true
some_node None b h = absurd (false≢true h)
some_node (Some n) b h = refl
