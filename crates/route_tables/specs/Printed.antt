-- The lines that commands print. This project's own.
use Rattle.std.specs.Prelude.{◌≡◌, ℕ, Bool, List, [], ◌∷◌, ◌++◌, Option, None, Some, codes, flat_map, map}
use Rattle.std.specs.FinMap.{get}
use Rattle.std.specs.Int.{w32, w128, to_be_bytes}
use Rattle.std.specs.Io.KnownBytes.{Appends}
use Rattle.std.specs.Net.Addr.{segments_of}
use Rattle.std.specs.Net.Text.{ipv4_text, ipv6_text}
use Rattle.std.specs.Option.{option_map}
use Rattle.prefix_trie.specs.Terms.{covers, listing, listing_below, longest_match, prefix_pair, prefix_pairs}
use Rattle.prefix_trie_bits.specs.Networks.{network_back}
use Rattle.address_ranges.specs.Ranges.{ranges_of}
use Rattle.prefix_trie_joint.specs.Joined.{both}
use Rattle.prefix_trie_joint.specs.Networks.{ip_back, ip_path}
use Rattle.prefix_trie_joint.specs.Texts.{ip_network_text}
use Rattle.prefix_trie_joint.specs.declared.prefix.IpPrefix.{IpPrefix}
use Rattle.prefix_trie_joint.specs.declared.prefix.IpPrefix.TheVariants.{V4, V6}
use Rattle.prefix_trie_ops.specs.declared.map.sides.Side.{Side}
use Rattle.prefix_trie_ops.specs.declared.map.sides.Side.TheVariants.{Both, Left, Right}
use Rattle.route_tables.specs.Access.{decision}
use Rattle.route_tables.specs.Changes.{changes_of}
use Rattle.route_tables.specs.Questions.{HasQuestions}
use Rattle.route_tables.specs.Tables.{Values}
use Rattle.route_tables.specs.declared.access.Decision.{Decision}
use Rattle.route_tables.specs.declared.access.Decision.TheVariants.{Allowed, Denied, Unlisted}
use Rattle.route_tables.specs.declared.access.Precedence.{Precedence}
use Rattle.route_tables.specs.declared.commands.printer.Style.{Style}
use Rattle.route_tables.specs.declared.commands.printer.Style.TheVariants as styles
use Rattle.route_tables.specs.declared.lookup.Relation.{Relation}
use Rattle.route_tables.specs.declared.lookup.Relation.TheVariants.{Contained, Covering, Exact, Longest}

-- what a printer printed: the bytes that its writer holds, if it prints lines of words; of other styles nothing is known
abbrev pub printed : Style → Option (List ℕ) → Option (List ℕ)
printed styles.Words contents = contents
printed styles.Json contents = None
printed (styles.Lists lists) contents = None

-- the function computes what a conversion gives
abbrev pub IsConversion : {P Q : Type 0} → (P → Q → Type 0) → (P → Q) → Type 0
IsConversion {P} {Q} Converts f = (p : P) (q : Q) → Converts p q → q ≡ f p

-- a network alone
abbrev pub network_line : IpPrefix → List ℕ
network_line network = ip_network_text network ++ codes "\n"

-- a network and its value, or the network alone if the value is empty
abbrev pub route_line : IpPrefix → List ℕ → List ℕ
route_line network [] = ip_network_text network ++ codes "\n"
route_line network (byte ∷ rest) = ip_network_text network ++ codes " " ++ (byte ∷ rest) ++ codes "\n"

-- what is found for an address: a network and its value, or `none`
abbrev pub found_line : Option (IpPrefix × List ℕ) → List ℕ
found_line None = codes "none\n"
found_line (Some found) = route_line found.0 found.1

-- an address and what is found for it
abbrev pub answer_line : List ℕ → Option (IpPrefix × List ℕ) → List ℕ
answer_line address found = address ++ codes " " ++ found_line found

-- an address, `allowed` or `denied`, and the network that decides, or `none`
abbrev pub decision_line : List ℕ → Decision → List ℕ
decision_line address (Allowed network) = address ++ codes " allowed " ++ ip_network_text network ++ codes "\n"
decision_line address (Denied network) = address ++ codes " denied " ++ ip_network_text network ++ codes "\n"
decision_line address Unlisted = address ++ codes " denied none\n"

-- a space and a value, or nothing if the value is empty
abbrev pub spaced : List ℕ → List ℕ
spaced [] = []
spaced (byte ∷ rest) = codes " " ++ (byte ∷ rest)

-- a network with an old and a new value
abbrev pub changed_line : IpPrefix → List ℕ → List ℕ → List ℕ
changed_line network old new = codes "~ " ++ ip_network_text network ++ spaced old ++ codes " ->" ++ spaced new ++ codes "\n"

-- a network at which two tables differ: `-` and the old value, `+` and the new one, or `~` and both
abbrev pub change_line : IpPrefix → Side (List ℕ) (List ℕ) → List ℕ
change_line network (Left old) = codes "- " ++ route_line network old
change_line network (Right new) = codes "+ " ++ route_line network new
change_line network (Both old new) = changed_line network old new

-- the lines of networks and their values
abbrev pub routes_text : List (IpPrefix × List ℕ) → List ℕ
routes_text routes = flat_map (λ route. route_line route.0 route.1) routes

-- routes of one family are printed, whichever function converts its networks
abbrev pub PrintsFamily : {P : Type 0} → (P → IpPrefix → Type 0) → (List (P × List ℕ) → Type 0) → Option (List ℕ) → Option (List ℕ) → Type 0
PrintsFamily {P} Converts Are before after =
    (routes : List (P × List ℕ)) × Are routes × ((ip : P → IpPrefix) → IsConversion Converts ip → Appends before after (routes_text (map (λ route. (ip route.0, route.1)) routes)))

-- routes of both families are printed, those of IPv4 first
abbrev pub PrintsBoth : (List ((ℕ × ℕ) × List ℕ) → Type 0) → (List ((ℕ × ℕ) × List ℕ) → Type 0) → Option (List ℕ) → Option (List ℕ) → Type 0
PrintsBoth AreIpv4 AreIpv6 before after =
    (ipv4 : List ((ℕ × ℕ) × List ℕ)) × (ipv6 : List ((ℕ × ℕ) × List ℕ)) × AreIpv4 ipv4 × AreIpv6 ipv6 × Appends before after (routes_text (both ipv4 ipv6))

-- the lines of networks
abbrev pub networks_text : List IpPrefix → List ℕ
networks_text networks = flat_map network_line networks

-- networks of one family are printed, whichever function converts them
abbrev pub PrintsNetworks : {P : Type 0} → (P → IpPrefix → Type 0) → (List P → Type 0) → Option (List ℕ) → Option (List ℕ) → Type 0
PrintsNetworks {P} Converts Are before after =
    (networks : List P) × Are networks × ((ip : P → IpPrefix) → IsConversion Converts ip → Appends before after (networks_text (map ip networks)))

-- the lines of a table, in listing order
abbrev pub table_text : Values → List ℕ
table_text m = routes_text (prefix_pairs ip_back (listing m))

-- the networks at which two tables of a family differ are printed, whichever function converts them
abbrev pub PrintsChanges : {P : Type 0} → (P → IpPrefix → Type 0) → (List Bool → P) → Values → Values → Option (List ℕ) → Option (List ℕ) → Type 0
PrintsChanges {P} Converts back old new before after =
    (ip : P → IpPrefix) → IsConversion Converts ip → Appends before after (flat_map (λ e. change_line (ip e.0) e.1) (prefix_pairs back (changes_of old new)))

-- the lines of the networks at which two tables differ: those of IPv4, and then those of IPv6
abbrev pub changes_text : Values → Values → Values → Values → List ℕ
changes_text old4 new4 old6 new6 =
    flat_map (λ e. change_line (V4 e.0) e.1) (prefix_pairs (network_back 32) (changes_of old4 new4)) ++ flat_map (λ e. change_line (V6 e.0) e.1) (prefix_pairs (network_back 128) (changes_of old6 new6))

-- what is printed for the questions of lines or words, in order
abbrev pub PrintsAnswers : (List ℕ → List ℕ → IpPrefix → Type 0) → (List ℕ → IpPrefix → List ℕ) → List (List ℕ) → Option (List ℕ) → Option (List ℕ) → Type 0
PrintsAnswers Asks answer lines before after =
    (questions : List (List ℕ × IpPrefix)) × HasQuestions Asks lines questions × Appends before after (flat_map (λ question. answer question.0 question.1) questions)

-- what an access list says of a question
abbrev pub decision_text : Precedence → Values → List ℕ → IpPrefix → List ℕ
decision_text precedence m text network = decision_line text (decision precedence m (ip_path network))

-- a line for each network that is found for a question, or one line if there is none
abbrev pub answer_lines : List ℕ → List (IpPrefix × List ℕ) → List ℕ
answer_lines text [] = answer_line text None
answer_lines text (first ∷ later) = flat_map (λ found. answer_line text (Some found)) (first ∷ later)

-- what a table has for a question: the networks in the relation, in listing order
abbrev pub lookup_text : Relation → Values → List ℕ → IpPrefix → List ℕ
lookup_text Longest m text network = answer_line text (prefix_pair ip_back (longest_match m (ip_path network)))
lookup_text Exact m text network = answer_line text (option_map (λ value. (ip_back (ip_path network), value)) (get m (ip_path network)))
lookup_text Covering m text network = answer_lines text (prefix_pairs ip_back (covers m (ip_path network)))
lookup_text Contained m text network = answer_lines text (prefix_pairs ip_back (listing_below m (ip_path network)))

-- the first and the last address of a range of IPv4 addresses
abbrev pub ipv4_range_line : ℕ × ℕ → List ℕ
ipv4_range_line range = ipv4_text (to_be_bytes w32 range.0) ++ codes "-" ++ ipv4_text (to_be_bytes w32 range.1) ++ codes "\n"

-- the same for IPv6 addresses
abbrev pub ipv6_range_line : ℕ × ℕ → List ℕ
ipv6_range_line range = ipv6_text (segments_of (to_be_bytes w128 range.0)) ++ codes "-" ++ ipv6_text (segments_of (to_be_bytes w128 range.1)) ++ codes "\n"

-- the lines of the ranges of a set of each family
abbrev pub ranges_text : List ℕ → List ℕ → List ℕ
ranges_text ipv4 ipv6 = flat_map ipv4_range_line (ranges_of 32 ipv4) ++ flat_map ipv6_range_line (ranges_of 128 ipv6)
