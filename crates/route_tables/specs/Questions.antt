-- Questions: the addresses and networks that a table is asked about. This project's own.
use Rattle.std.specs.Prelude.{◌≡◌, ◌⊎◌, ◌++◌, ℕ, ◌-◌, ◌/◌, ◌%◌, ◌^◌, ◌==◌, ◌&&◌, Bool, false, cond, List, [], ◌∷◌, nat_le, Option, None, Some, Result, Ok, Err}
use Rattle.std.specs.Net.Grammar.{IsIpText}
use Rattle.std.specs.Str.{IsUtf8}
use Rattle.std.specs.declared.net.ip_addr.IpAddr.{IpAddr}
use Rattle.prefix_trie_joint.specs.Networks.{ip_host}
use Rattle.prefix_trie_joint.specs.declared.prefix.IpPrefix.{IpPrefix}
use Rattle.prefix_trie_joint.specs.declared.prefix.IpPrefix.TheVariants.{V4, V6}
use Rattle.route_tables.specs.Lines.{fields, has_bare_return}
use Rattle.route_tables.specs.Networks.{IsNetworkText}
use Rattle.route_tables.specs.Routes.{IsBlank}
use Rattle.route_tables.specs.declared.questions.Asked.{Asked}
use Rattle.route_tables.specs.declared.questions.Asked.TheVariants.{Addresses, Networks}
use Rattle.route_tables.specs.declared.questions.Asking.{Asking}
use Rattle.route_tables.specs.declared.questions.Mapped.{Mapped}
use Rattle.route_tables.specs.declared.questions.Mapped.TheVariants.{AsIpv4, Kept}
use Rattle.route_tables.specs.declared.questions.Question.{Question}
use Rattle.route_tables.specs.declared.questions.QuestionError.{QuestionError}

-- whether an IPv6 network is one of IPv4 addresses, which is in `::ffff:0.0.0.0/96` (RFC 4291, 2.5.5.2)
abbrev pub is_mapped : ℕ × ℕ → Bool
is_mapped network = nat_le 96 network.1 && network.0 / 2 ^ 32 == 0xFFFF

-- the IPv4 network of such a network, and any other network as it is
abbrev pub as_ipv4 : IpPrefix → IpPrefix
as_ipv4 (V4 network) = V4 network
as_ipv4 (V6 network) = cond (is_mapped network) (V4 (network.0 % 2 ^ 32, network.1 - 96)) (V6 network)

-- the same, unless they are kept
abbrev pub as_mapped : Mapped → IpPrefix → IpPrefix
as_mapped AsIpv4 network = as_ipv4 network
as_mapped Kept network = network

-- the text is that of an address, or also of a network if networks may be asked
abbrev pub IsAsked : Asked → List ℕ → IpPrefix → Type 0
IsAsked Addresses text network = (address : IpAddr) × IsIpText text address × (network ≡ ip_host address)
IsAsked (Networks host_bits) text network = IsNetworkText host_bits text network

-- the text asks about a network
abbrev pub IsQuestion : Asking → List ℕ → IpPrefix → Type 0
IsQuestion asking text network = (written : IpPrefix) × IsAsked asking.asked text written × (network ≡ as_mapped asking.mapped written)

-- fields are one text that asks about a network
pub record AreFieldsOfQuestion (asking : Asking) (read : List (List ℕ)) (text : List ℕ) (network : IpPrefix) : Type 0 where
  pub only : read ≡ text ∷ []
  pub utf8 : IsUtf8 text
  pub is_question : IsQuestion asking text network

-- the only field of the line is such a text
abbrev pub IsQuestionLine : Asking → List ℕ → List ℕ → IpPrefix → Type 0
IsQuestionLine asking line text network = AreFieldsOfQuestion asking (fields line) text network × (has_bare_return line ≡ false)

-- the word is such a text
abbrev pub IsQuestionWord : Asking → List ℕ → List ℕ → IpPrefix → Type 0
IsQuestionWord asking word text network = (text ≡ word) × IsQuestion asking word network

-- the question of a line or a word, if it has one
abbrev pub GivesQuestion : (List ℕ → List ℕ → IpPrefix → Type 0) → List ℕ → List (List ℕ × IpPrefix) → Type 0
GivesQuestion Asks line given =
    ((given ≡ []) × ((text : List ℕ) (network : IpPrefix) → ¬ (Asks line text network)))
    ⊎ ((text : List ℕ) × (network : IpPrefix) × Asks line text network × (given ≡ (text, network) ∷ []))

-- the questions of lines or words, in order: the text and the network of each
abbrev pub HasQuestions : (List ℕ → List ℕ → IpPrefix → Type 0) → List (List ℕ) → List (List ℕ × IpPrefix) → Type 0
HasQuestions Asks [] questions = questions ≡ []
HasQuestions Asks (line ∷ later) questions =
    (given : List (List ℕ × IpPrefix)) × (rest : List (List ℕ × IpPrefix)) × GivesQuestion Asks line given × HasQuestions Asks later rest × (questions ≡ given ++ rest)

-- what is read from a line: nothing if it is blank or a comment, its question, or an error if it is neither
abbrev pub ReadsLine : Asking → List ℕ → Result (Option Question) QuestionError → Type 0
ReadsLine asking line (Ok None) = IsBlank line
ReadsLine asking line (Ok (Some question)) = IsQuestionLine asking line question.text.now question.network
ReadsLine asking line (Err error) = ¬ (IsBlank line) × ((text : List ℕ) (network : IpPrefix) → ¬ (IsQuestionLine asking line text network))
