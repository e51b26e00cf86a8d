-- The node in which a key is stored has the longest beginning of the key whose length is a multiple of five.
use Rattle.prefix_trie_bits.proofs.Prelude.{◌≡◌, ◌+◌, ◌*◌, ◌/◌, ◌%◌, ◌<◌, ◌≤◌, Bool, true, List, length, sym, ◌∙◌, arith, length-take-le, begins, take-begins, begins-linear, begins-length, begins-same-length, home}

pub home-begins : (q : List Bool) → begins (home q) q ≡ true
home-begins q = take-begins (5 * (length q / 5)) q

pub home-length : (q : List Bool) → length (home q) ≡ 5 * (length q / 5)
home-length q = length-take-le (5 * (length q / 5)) q (omega arith)

pub home-depth : (q : List Bool) → length (home q) % 5 ≡ 0
home-depth q = let e = home-length q in omega (arith, e)

-- each beginning of q whose length is a multiple of five begins q's own node
pub home-longest : (s q : List Bool) → begins s q ≡ true → length s % 5 ≡ 0 → begins s (home q) ≡ true
home-longest s q e five =
    let short : length s ≤ length (home q) = omega (arith, home-length q, begins-length s q e, five) in
    begins-linear s (home q) q e (home-begins q) short

-- a key that is stored in the node p, and so is less than five bits longer, has p as its own node
pub own_home : (p q : List Bool) → length p % 5 ≡ 0 → begins p q ≡ true → length q < length p + 5 → p ≡ home q
own_home p q depth b less =
    let e : length p ≡ 5 * (length q / 5) = omega (arith, depth, begins-length p q b, less) in
    begins-same-length p (home q) (home-longest p q b depth) (e ∙ sym (home-length q))
