-- The value of a match is in the cell at its seat.
use Rattle.prefix_trie_table.proofs.Prelude.{◌≡◌, ◌<◌, ℕ, List, length, get_or, Option, None, refl, sym, ap, ◌∙◌, subst, get_or_default}
use Rattle.prefix_trie_table.proofs.table.matching.value_of_match.Goals as goal

-- the cell at a slot
cell-is : {X : Type 0} (slots : List (Option X)) (at to : ℕ) (x : Option X) → at ≡ to → to < length slots → x ≡ get_or slots at x → get_or slots to None ≡ x
cell-is slots at to x e within read = get_or_default slots to None x within ∙ ap (λ i. get_or slots i x) (sym e) ∙ sym read

pub at-requires : goal.at-requires
at-requires g c = subst (λ i. i < length c.args.cells.now.slots) (sym (ap (λ s. s.slot) c.seat-seat.ensures)) c.requires.is_there

pub returns-in_default : goal.returns-in_default
returns-in_default g c =
    cell-is c.args.cells.now.slots c.seat-seat.result.slot _ c.at.result.now (ap (λ s. s.slot) c.seat-seat.ensures) c.requires.is_there c.at.ensures.slot
    ∙ sym c.in_default.ensures.value

pub returns : goal.returns
returns g c = (
  refl,
  cell-is c.args.cells.now.slots c.seat-seat.result.slot _ c.at.result.now (ap (λ s. s.slot) c.seat-seat.ensures) c.requires.is_there c.at.ensures.slot
      ∙ sym c.in-Some.ensures.value,
)
