-- What is printed for the questions of lines or words, one after another: for `check_lines` and `check_words`.
use Rattle.std.proofs.Common.{◌≡◌, ◌∙◌, ℕ, List, [], ◌∷◌, ◌++◌, Option, ap, append-nil, append_assoc, flat_map, inl, inr, refl, subst, sym}
use Rattle.std.specs.Io.KnownBytes.{Appends}
use Rattle.std.proofs.lemmas.List.Concat.{flat_map-append}
use Rattle.prefix_trie_joint.specs.declared.prefix.IpPrefix.{IpPrefix}
use Rattle.route_tables.specs.Printed.{PrintsAnswers}
use Rattle.route_tables.specs.Questions.{HasQuestions, IsQuestionLine}
use Rattle.route_tables.specs.Routes.{IsBlank}
use Rattle.route_tables.specs.declared.questions.Asking.{Asking}
use Rattle.route_tables.proofs.Printing.{appends_both, appends_none}

module _ (Asks : List ℕ → List ℕ → IpPrefix → Type 0) where
  -- the questions of lines after those before
  pub has_append : (lines more : List (List ℕ)) (questions given : List (List ℕ × IpPrefix)) → HasQuestions Asks lines questions → HasQuestions Asks more given
      → HasQuestions Asks (lines ++ more) (questions ++ given)
  has_append [] more questions given none has = subst (HasQuestions Asks more) (ap (λ qs. qs ++ given) (sym none)) has
  has_append (first ∷ lines) more questions given (g, rest, gives, later, split) has = (
    g,
    rest ++ given,
    gives,
    has_append lines more rest given later has,
    ap (λ qs. qs ++ given) split ∙ append_assoc g rest given,
  )

module _ (Asks : List ℕ → List ℕ → IpPrefix → Type 0) (answer : List ℕ → IpPrefix → List ℕ) where
  -- for no lines, nothing is printed
  pub prints_none : (a : Option (List ℕ)) → PrintsAnswers Asks answer [] a a
  prints_none a = ([], refl, appends_none a)

  -- lines after those before
  pub prints_more : (lines more : List (List ℕ)) (a b c : Option (List ℕ)) → PrintsAnswers Asks answer lines a b → PrintsAnswers Asks answer more b c → PrintsAnswers Asks answer (lines ++ more) a c
  prints_more lines more a b c (questions, has, printed) (given, have, then) =
      let line : List ℕ × IpPrefix → List ℕ = λ question. answer question.0 question.1 in (
        questions ++ given,
        has_append Asks lines more questions given has have,
        subst (Appends a c) (sym (flat_map-append line questions given)) (appends_both a b c (flat_map line questions) (flat_map line given) printed then),
      )

  -- a line that has a question
  pub prints_question : (line text : List ℕ) (network : IpPrefix) (a b : Option (List ℕ)) → Asks line text network → Appends a b (answer text network) → PrintsAnswers Asks answer (line ∷ []) a b
  prints_question line text network a b asks printed = (
    (text, network) ∷ [],
    ((text, network) ∷ [], [], inr (text, network, asks, refl), refl, refl),
    subst (Appends a b) (sym (append-nil (answer text network))) printed,
  )

  -- a line that has none
  pub prints_nothing : (line : List ℕ) (a : Option (List ℕ)) → ((text : List ℕ) (network : IpPrefix) → ¬ (Asks line text network)) → PrintsAnswers Asks answer (line ∷ []) a a
  prints_nothing line a none = ([], ([], [], inl (refl, none), refl, refl), appends_none a)

  -- the lines so far are answered
  pub record AnswersSoFar (all rest : List (List ℕ)) (before now : Option (List ℕ)) : Type 0 where
    pub done : List (List ℕ)
    pub split : all ≡ done ++ rest
    pub prints : PrintsAnswers Asks answer done before now

  pub answers_start : (all : List (List ℕ)) (before : Option (List ℕ)) → AnswersSoFar all all before before
  answers_start all before = record { done = []; split = refl; prints = prints_none before }

  pub answers_on : (all rest later lines : List (List ℕ)) (before now next : Option (List ℕ)) → rest ≡ lines ++ later → PrintsAnswers Asks answer lines now next
      → AnswersSoFar all rest before now → AnswersSoFar all later before next
  answers_on all rest later lines before now next split more old = record {
    done = old.done ++ lines;
    split = old.split ∙ ap (λ r. old.done ++ r) split ∙ sym (append_assoc old.done lines later);
    prints = prints_more old.done lines before now next old.prints more;
  }

  pub answers_end : (all rest : List (List ℕ)) (before now : Option (List ℕ)) → rest ≡ [] → AnswersSoFar all rest before now → PrintsAnswers Asks answer all before now
  answers_end all rest before now none old =
      subst (λ lines. PrintsAnswers Asks answer lines before now) (sym (old.split ∙ ap (λ r. old.done ++ r) none ∙ append-nil old.done)) old.prints

-- a blank line has no question
pub blank_asks_nothing : (asking : Asking) (line : List ℕ) → IsBlank line → (text : List ℕ) (network : IpPrefix) → ¬ (IsQuestionLine asking line text network)
blank_asks_nothing asking line blank text network asks = let e : [] ≡ text ∷ [] = sym blank.0 ∙ asks.0.only in cc
