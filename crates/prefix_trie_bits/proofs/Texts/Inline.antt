-- The content of an `InlineText` after some writes: for padded texts.
use Rattle.std.proofs.Common.{◌≡◌, ℕ, List, [], ◌∷◌, ◌++◌, sym, ap, ◌∙◌, subst, Option, Some, None, IfSome, append-nil, append_assoc}
use Rattle.std.specs.Option.{option_map}
use Rattle.std.specs.List.{FoldsTo, concat}
use Rattle.std.specs.declared.fmt.InlineText.{InlineText}
use Rattle.std.specs.Fmt.{WritesInCalls, WritesText}
use Rattle.std.specs.Fmt.InlineText.{inline_text, IsIntact, AppendsIfIntact}

folds : {n : ℕ} (w v : InlineText n) (parts : List (List ℕ)) → IsIntact w → FoldsTo AppendsIfIntact w parts v → inline_text v ≡ inline_text w ++ concat parts
folds w v [] intact h = ap inline_text (sym h) ∙ sym (append-nil (inline_text w))
folds w v (x ∷ parts) intact (j, step, rest) =
    let (later, grown) = step intact in
    folds j v parts later rest ∙ ap (λ t. t ++ concat parts) grown ∙ append_assoc (inline_text w) x (concat parts)

module _ {n : ℕ} (w v : InlineText n) (intact : IsIntact w) (empty : inline_text w ≡ []) where
  written : (text : List ℕ) → WritesInCalls AppendsIfIntact w text v → inline_text v ≡ text
  written text h = folds w v h.parts intact h.calls ∙ ap (λ t. t ++ concat h.parts) empty ∙ h.whole

  -- what holds of the text in the buffer holds of the text that was written
  pub of_text : (P : List ℕ → Type 0) (o : Option (List ℕ)) → WritesText AppendsIfIntact w o v → P (inline_text v) → IfSome o P
  of_text P None h p = tt
  of_text P (Some text) h p = subst P (written text h) p

  pub of_styled : (P : List ℕ → Type 0) (f : List ℕ → List ℕ) (o : Option (List ℕ)) → WritesText AppendsIfIntact w o v → P (f (inline_text v)) → IfSome (option_map f o) P
  of_styled P f None h p = tt
  of_styled P f (Some text) h p = subst (λ t. P (f t)) (written text h) p
