-- Questions that are looked up together: what is read of them, found for them and printed. This project's own.
use Rattle.std.specs.Prelude.{◌≡◌, ℕ, ◌<◌, List, [], ◌∷◌, ◌++◌, Option, flat_map, length, slice_index_or}
use Rattle.std.specs.Bool.{⊤}
use Rattle.std.specs.Borrow.{Bor}
use Rattle.std.specs.Option.{option_copied, option_map}
use Rattle.prefix_trie.specs.Terms.{longest_match}
use Rattle.prefix_trie_joint.specs.Networks.{ip_path}
use Rattle.prefix_trie_joint.specs.declared.prefix.IpPrefix.{IpPrefix}
use Rattle.prefix_trie_joint.specs.declared.prefix.IpPrefix.TheVariants.{V4, V6}
use Rattle.route_tables.specs.Lines.{lines}
use Rattle.route_tables.specs.Printed.{PrintsAnswers}
use Rattle.route_tables.specs.Questions.{HasQuestions, IsQuestionLine}
use Rattle.route_tables.specs.Tables.{Values}
use Rattle.route_tables.specs.declared.questions.Asking.{Asking}

-- the questions with these texts and networks
abbrev pub questions_of : List (Bor (List ℕ)) → List IpPrefix → List (List ℕ × IpPrefix)
questions_of [] networks = []
questions_of (text ∷ texts) [] = []
questions_of (text ∷ texts) (network ∷ networks) = (text.now, network) ∷ questions_of texts networks

-- the first lines of a text have these questions, and the rest of the text follows them
abbrev pub BeginsWithQuestions : Asking → List ℕ → List ℕ → List (List ℕ × IpPrefix) → Type 0
BeginsWithQuestions asking text rest questions = (first : List (List ℕ)) × (lines text ≡ first ++ lines rest) × HasQuestions (IsQuestionLine asking) first questions

-- what is printed for questions, in order
abbrev pub answers_text : (List ℕ → IpPrefix → List ℕ) → List (List ℕ × IpPrefix) → List ℕ
answers_text answer questions = flat_map (λ question. answer question.0 question.1) questions

-- what is printed for the questions of the first lines of a text, and the rest of the text follows them
abbrev pub PrintsFirstAnswers : (List ℕ → List ℕ → IpPrefix → Type 0) → (List ℕ → IpPrefix → List ℕ) → List ℕ → List ℕ → Option (List ℕ) → Option (List ℕ) → Type 0
PrintsFirstAnswers Asks answer text rest before after =
    (first : List (List ℕ)) × (lines text ≡ first ++ lines rest) × PrintsAnswers Asks answer first before after

-- a network is this one if it is of IPv4
abbrev pub IsIpv4Of : IpPrefix → ℕ × ℕ → Type 0
IsIpv4Of (V4 network) asked = asked ≡ network
IsIpv4Of (V6 network) asked = ⊤

-- the IPv4 networks of a list are at the same places in another
abbrev pub AreIpv4Of : List IpPrefix → List (ℕ × ℕ) → Type 0
AreIpv4Of networks asked =
    (i : ℕ) → i < length networks → (network : IpPrefix) (p : ℕ × ℕ) → slice_index_or networks i network ≡ network → slice_index_or asked i p ≡ p → IsIpv4Of network p

-- what was found for an IPv4 network is the value of its longest match
abbrev pub IsMatchValue : Values → IpPrefix → Option (Bor (List ℕ)) → Type 0
IsMatchValue m (V4 network) value = option_copied value ≡ option_map (λ found. found.1) (longest_match m (ip_path (V4 network)))
IsMatchValue m (V6 network) value = ⊤

-- what was found for networks is at the same places in another list
abbrev pub AreMatchValues : Values → List IpPrefix → List (Option (Bor (List ℕ))) → Type 0
AreMatchValues m networks values =
    (i : ℕ) → i < length networks → (network : IpPrefix) (value : Option (Bor (List ℕ))) → slice_index_or networks i network ≡ network → slice_index_or values i value ≡ value → IsMatchValue m network value
