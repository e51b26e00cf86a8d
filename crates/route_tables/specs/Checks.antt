-- What checks of lines and words show. This project's own.
use Rattle.std.specs.Prelude.{◌≡◌, ◌↔◌, ◌⊎◌, ℕ, ◌+◌, ◌-◌, ◌^◌, ◌<◌, ⊤, true, List, All, length, min, slice_index_or, take, []}
use Rattle.prefix_trie_joint.specs.Networks.{ip_path}
use Rattle.prefix_trie_joint.specs.declared.prefix.IpPrefix.{IpPrefix}
use Rattle.route_tables.specs.Access.{IsAllowed}
use Rattle.route_tables.specs.Questions.{IsQuestion, IsQuestionLine}
use Rattle.route_tables.specs.Routes.{IsBlank}
use Rattle.route_tables.specs.Tables.{Values}
use Rattle.route_tables.specs.declared.commands.questions.QuestionsError.{QuestionsError}
use Rattle.route_tables.specs.declared.commands.questions.QuestionsError.TheVariants.{Output, Question as BadText}
use Rattle.route_tables.specs.declared.commands.checks.Checked.{Checked}
use Rattle.route_tables.specs.declared.commands.checks.Checking.{Checking}
use Rattle.route_tables.specs.declared.load.BadLines.{BadLines}
use Rattle.route_tables.specs.declared.load.BadLines.TheVariants.{Refused}
use Rattle.route_tables.specs.declared.questions.Asked.TheVariants.{Addresses}
use Rattle.route_tables.specs.declared.questions.Asking.{Asking}

-- only addresses are asked
abbrev pub asking_of : Checking → Asking
asking_of checking = record { asked = Addresses; mapped = checking.mapped }

-- the line is blank, a comment, or an address
abbrev pub IsGoodLine : Checking → List ℕ → Type 0
IsGoodLine checking line = IsBlank line ⊎ ((text : List ℕ) × (network : IpPrefix) × IsQuestionLine (asking_of checking) line text network)

-- the line is blank, a comment, or an address that the list allows
abbrev pub IsAllowedLine : Checking → Values → List ℕ → Type 0
IsAllowedLine checking m line =
    IsBlank line
    ⊎ ((text : List ℕ) × (network : IpPrefix) × IsQuestionLine (asking_of checking) line text network × IsAllowed checking.precedence m (ip_path network))

-- the word is an address that the list allows
abbrev pub IsAllowedWord : Checking → Values → List ℕ → Type 0
IsAllowedWord checking m word = (network : IpPrefix) × IsQuestion (asking_of checking) word network × IsAllowed checking.precedence m (ip_path network)

-- the word is an address
abbrev pub IsGoodWord : Checking → List ℕ → Type 0
IsGoodWord checking word = (network : IpPrefix) × IsQuestion (asking_of checking) word network

-- a number more, which stops at the largest
abbrev pub counted : ℕ → ℕ → ℕ
counted before n = min (before + n) (2 ^ 64 - 1)

-- all texts so far are allowed exactly if those before were and these are
abbrev pub HasChecked : (List ℕ → Type 0) → List (List ℕ) → Checked → Checked → Type 0
HasChecked Allowed texts before after =
    ((after.are_all_allowed ≡ true) ↔ ((before.are_all_allowed ≡ true) × All Allowed texts)) × (after.seen.count ≡ counted before.seen.count (length texts))

-- an error that is about a text means that it is not good and bad texts are refused, and names it
abbrev pub NamesText : Type 0 → BadLines → List ℕ → ℕ → QuestionsError → Type 0
NamesText Good bad_questions text number (BadText bad) = (bad_questions ≡ Refused) × (bad.number ≡ number) × (bad.text.now ≡ text) × ¬ Good
NamesText Good bad_questions text number (Output error) = ⊤

-- an error that is not about a text
abbrev pub IsOutput : QuestionsError → Type 0
IsOutput (BadText bad) = ⊥
IsOutput (Output error) = ⊤

-- a text ends the check: it and those before it are checked, and it is the first that is not good if the error is about it
pub record EndsCheck (Good Allowed : List ℕ → Type 0) (checking : Checking) (texts : List (List ℕ)) (before after : Checked) (error : QuestionsError) : Type 0 where
  pub index : ℕ
  pub within : index < length texts
  pub checked : HasChecked Allowed (take (index + 1) texts) before after
  pub good : checking.bad_questions ≡ Refused → All Good (take index texts)
  pub named : NamesText (Good (slice_index_or texts index [])) checking.bad_questions (slice_index_or texts index []) (counted before.seen.count (index + 1)) error
