-- The places of a node that a walk has still to visit. This project's own.
use Rattle.std.specs.Prelude.{List, Bool}
use Rattle.prefix_trie_bits.specs.Places.{strings, pick}
use Rattle.prefix_trie_bits.specs.declared.node.Places.{Places}

-- the strings to come, in listing order
abbrev pub to_come : Places → List (List Bool)
to_come p = pick p.listing (strings 5)
