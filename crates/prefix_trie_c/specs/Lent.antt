-- What a table behind a pointer is after a loan.
use base.Fml.{Fml}
use denote.RattleType.{RattleType}
use denote.Ref.{MutBor}
use denote.Follow.{follows}
use Rattle.core.specs.declared.alloc.Allocator.{Ghosts}
use Rattle.prefix_trie_c.specs.declared.loose.Loose.{Loose}
use Rattle.prefix_trie_c.specs.contracts.loose.Loose.{the_row as loose-row}

-- l after `*l = w`
abbrev pub loose_with : {X : Type 0} {A : Type 0} → Loose X A → X → Loose X A
loose_with l w = record { at = l.at; alloc = l.alloc; value = w }

-- once the borrow r ends, the table behind l holds the last value written through r
abbrev pub loose_follows : (R Z : RattleType) (g : Ghosts Z.Denot) → MutBor (Loose R.Denot Z.Denot) → MutBor R.Denot → Fml
loose_follows R Z g l r = follows (loose-row R Z g) R l.ghost_name r.ghost_name (loose_with l.now)
