-- Each match that a walk over covers gives is the first of the matches still to come, and its cell has a value.
use Rattle.prefix_trie_table.proofs.Prelude.{◌∷◌, take, is_some, ap, sym, ◌∙◌, arith, false≢true, still_covering}
use Rattle.prefix_trie_table.proofs.Lookup.NodeCovers.{cover_on}
use Rattle.prefix_trie_table.proofs.Lookup.EntryCovers.{gives_none, gives_next, match_there, match_short}
use Rattle.prefix_trie_table.proofs.Lookup.EntryMatches.{has_nodes}
use Rattle.prefix_trie_table.proofs.table.cover.Cover.next.Goals as goal

pub next_match-requires-clause-sound : goal.next_match-requires-clause-sound
next_match-requires-clause-sound g c = has_nodes _ _ c.self.invariant.table

pub next_match-requires-clause-is_there : goal.next_match-requires-clause-is_there
next_match-requires-clause-is_there g c = (c.self.invariant.first, c.self.invariant.is_there)

pub invariant_of-self : goal.invariant_of-self
invariant_of-self g c = cover_on _ _ _ _ _ _ _ _ c.self.invariant (c.in_default.ensures c.self.invariant.first c.self.invariant.is_there)

pub returns-in_default : goal.returns-in_default
returns-in_default g c =
    let at = c.self.invariant.is_there in
    let later = c.self-1.given.0 in
    let gone = c.in_default.ensures c.self.invariant.first at in
    let none = gives_none _ _ c.self.invariant.table _ _ c.self.inside.shape.1 later.1 _ _ _ _ _ _ at gone in
    (sym c.self.view_is ∙ none.0, none.1)

pub value_of_match-requires-clause-bit : goal.value_of_match-requires-clause-bit
value_of_match-requires-clause-bit g c =
    let at = c.self.invariant.is_there in
    (match_there _ _ c.self.invariant.table _ _ c.self.inside.shape.1 c.self.inside.shape.1 _ _ _ _ _ _ at c.in-Some.found (c.in-Some.ensures c.self.invariant.first at)).0

pub value_of_match-requires-clause-is_there : goal.value_of_match-requires-clause-is_there
value_of_match-requires-clause-is_there g c =
    let at = c.self.invariant.is_there in
    (match_there _ _ c.self.invariant.table _ _ c.self.inside.shape.1 c.self.inside.shape.1 _ _ _ _ _ _ at c.in-Some.found (c.in-Some.ensures c.self.invariant.first at)).1

pub invariant_of-self-in_default-value_of_match : goal.invariant_of-self-in_default-value_of_match
invariant_of-self-in_default-value_of_match g c = cover_on _ _ _ _ _ _ _ _ c.self.invariant (c.in-Some.ensures c.self.invariant.first c.self.invariant.is_there)

pub returns-in_default-value_of_match : goal.returns-in_default-value_of_match
returns-in_default-value_of_match g c =
    let at = c.self.invariant.is_there in
    let there = match_there _ _ c.self.invariant.table _ _ c.self.inside.shape.1 c.self.inside.shape.1 _ _ _ _ _ _ at c.in-Some.found (c.in-Some.ensures c.self.invariant.first at) in
    absurd (false≢true (sym (ap is_some c.in_default-value_of_match.ensures) ∙ there.2))

pub invariant_of-self-2 : goal.invariant_of-self-2
invariant_of-self-2 g c = cover_on _ _ _ _ _ _ _ _ c.self.invariant (c.in-Some.ensures c.self.invariant.first c.self.invariant.is_there)

pub first-requires : goal.first-requires
first-requires g c =
    let at = c.self.invariant.is_there in
    let short = match_short _ _ c.self.invariant.table _ _ c.self.inside.shape.1 c.self.inside.shape.1 _ _ _ _ _ _ at c.in-Some.found (c.in-Some.ensures c.self.invariant.first at) in
    let read = c.in-Some-value_of_match.ensures in
    omega (arith, short, read.0)

pub returns : goal.returns
returns g c =
    let at = c.self.invariant.is_there in
    let later = c.self-1.given.0 in
    let gone = c.in-Some.ensures c.self.invariant.first at in
    let read = c.in-Some-value_of_match.ensures in
    let q = c.self.inside.path in
    sym c.self.view_is
    ∙ gives_next _ _ c.self.invariant.table _ _ c.self.inside.shape.1 later.1 _ _ _ _ _ _ at c.in-Some.found gone c.in-Some-value_of_match.value.now read.1
    ∙ ap (λ s. (s, c.in-Some-value_of_match.value.now) ∷ still_covering later.0.entries q c.next_match.new.here.level c.next_match.new.matches) (ap (λ n. take n q) (sym read.0) ∙ sym c.first.ensures)
