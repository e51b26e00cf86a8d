-- Which of two values is preferred.
use Rattle.prefix_trie_ops.specs.declared.map.sides.Side.{Side}
use Rattle.prefix_trie_ops.specs.declared.map.sides.Side.TheVariants.{Left, Right, Both}

-- the left value, or else the right one
abbrev pub preferred_of : {T : Type 0} → Side T T → T
preferred_of (Left v) = v
preferred_of (Right w) = w
preferred_of (Both v w) = v
