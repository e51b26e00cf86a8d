-- The states of routes by origin validation, and what is printed for them. This project's own.
use Rattle.std.specs.Prelude.{◌≡◌, ◌⊎◌, ℕ, ◌+◌, ◌-◌, ◌^◌, ◌<◌, ⊤, List, [], ◌∷◌, ◌++◌, All, Contains, Option, None, Some, Result, Ok, Err, codes, decimal, length, min, slice_index_or, take}
use Rattle.std.specs.Io.KnownBytes.{Appends}
use Rattle.origin_validation.specs.Validation.{Covers, IsValidity, Matches}
use Rattle.origin_validation.specs.declared.validity.Validity.{Validity}
use Rattle.origin_validation.specs.declared.validity.Validity.TheVariants.{Invalid, NotFound, Valid}
use Rattle.origin_validation.specs.declared.vrp.Vrp.{Vrp}
use Rattle.prefix_trie_joint.specs.Texts.{ip_network_text}
use Rattle.route_tables.specs.Announcements.{IsRouteLine}
use Rattle.route_tables.specs.Checks.{NamesText, counted}
use Rattle.route_tables.specs.Routes.{IsBlank}
use Rattle.route_tables.specs.declared.announcements.Announcement.{Announcement}
use Rattle.route_tables.specs.declared.commands.questions.QuestionsError.{QuestionsError}
use Rattle.route_tables.specs.declared.commands.questions.QuestionsError.TheVariants.{Output, Question as BadText}
use Rattle.route_tables.specs.declared.commands.validations.StateCounts.{StateCounts}
use Rattle.route_tables.specs.declared.commands.validations.Validated.{Validated}
use Rattle.route_tables.specs.declared.commands.validations.Validating.{Validating}
use Rattle.route_tables.specs.declared.commands.validations.Verdicts.{Verdicts}
use Rattle.route_tables.specs.declared.commands.validations.Verdicts.TheVariants.{Counts, Each}
use Rattle.route_tables.specs.declared.load.BadLines.TheVariants.{Refused}
use Rattle.route_tables.specs.declared.network.HostBits.{HostBits}

-- a route and its state
abbrev pub Verdict : Type 0
Verdict = Announcement × Validity

-- the line has no route: it is blank, a comment, or bad
abbrev pub HasNoRoute : HostBits → List ℕ → Type 0
HasNoRoute host_bits line = (route : Announcement) → ¬ (IsRouteLine host_bits line route)

-- the line is blank, a comment, or a route
abbrev pub IsGoodRoute : HostBits → List ℕ → Type 0
IsGoodRoute host_bits line = IsBlank line ⊎ ((route : Announcement) × IsRouteLine host_bits line route)

-- these are the routes of the lines, in order, each with its state and a VRP that decides
abbrev pub HaveVerdicts : HostBits → List Vrp → List (List ℕ) → List Verdict → Type 0
HaveVerdicts host_bits vrps [] verdicts = verdicts ≡ []
HaveVerdicts host_bits vrps (line ∷ later) verdicts =
    (HasNoRoute host_bits line × HaveVerdicts host_bits vrps later verdicts)
    ⊎ ((route : Announcement) × (validity : Validity) × (rest : List Verdict) × IsRouteLine host_bits line route
    × IsValidity vrps route.prefix route.origin validity × (verdicts ≡ (route, validity) ∷ rest) × HaveVerdicts host_bits vrps later rest)

-- one more, up to the largest number of 64 bits
abbrev pub one_more : ℕ → ℕ
one_more n = min (n + 1) (2 ^ 64 - 1)

-- the counts after one more state
abbrev pub with_state : StateCounts → Validity → StateCounts
with_state counts (Valid vrp) = record counts { valid = one_more counts.valid }
with_state counts (Invalid vrp) = record counts { invalid = one_more counts.invalid }
with_state counts NotFound = record counts { not_found = one_more counts.not_found }

-- the counts after more routes
abbrev pub with_states : StateCounts → List Verdict → StateCounts
with_states counts [] = counts
with_states counts (verdict ∷ later) = with_states (with_state counts verdict.1) later

-- an AS, or `none`
abbrev pub origin_text : Option ℕ → List ℕ
origin_text None = codes "none"
origin_text (Some n) = codes "AS" ++ decimal n

-- a VRP: its prefix and its maximum length, with a hyphen between them, and its AS
abbrev pub vrp_text : Vrp → List ℕ
vrp_text vrp = ip_network_text vrp.prefix ++ codes "-" ++ decimal vrp.max_len ++ codes " AS" ++ decimal vrp.origin

-- a state, and the VRP that decides, or `none`
abbrev pub state_text : Validity → List ℕ
state_text (Valid vrp) = codes "valid " ++ vrp_text vrp
state_text (Invalid vrp) = codes "invalid " ++ vrp_text vrp
state_text NotFound = codes "not-found none"

-- a route, its origin, its state, and the VRP that decides
abbrev pub verdict_line : Announcement → Validity → List ℕ
verdict_line route validity = ip_network_text route.prefix ++ codes " " ++ origin_text route.origin ++ codes " " ++ state_text validity ++ codes "\n"

-- the lines of routes, in order
abbrev pub verdict_lines : List Verdict → List ℕ
verdict_lines [] = []
verdict_lines (verdict ∷ later) = verdict_line verdict.0 verdict.1 ++ verdict_lines later

-- the numbers of routes with each state
abbrev pub count_lines : StateCounts → List ℕ
count_lines counts = codes "valid " ++ decimal counts.valid ++ codes "\ninvalid " ++ decimal counts.invalid ++ codes "\nnot-found " ++ decimal counts.not_found ++ codes "\n"

-- what is printed for routes before the counts: a line for each, or nothing
abbrev pub state_lines : Verdicts → List Verdict → List ℕ
state_lines Each verdicts = verdict_lines verdicts
state_lines Counts verdicts = []

-- it holds unless an error of output ended the validation
abbrev pub UnlessOutput : {X : Type 0} → Result X QuestionsError → Type 0 → Type 0
UnlessOutput (Ok done) P = P
UnlessOutput (Err (BadText bad)) P = P
UnlessOutput (Err (Output error)) P = ⊤

-- a route is validated: it has a state, is counted, and is printed unless an error of output ended it
pub record ValidatesRoute {X : Type 0} (verdicts : Verdicts) (vrps : List Vrp) (route : Announcement) (before after : Validated) (out out_after : Option (List ℕ)) (r : Result X QuestionsError) : Type 0 where
  pub validity : Validity
  pub is_validity : IsValidity vrps route.prefix route.origin validity
  pub counts : after.counts ≡ with_state before.counts validity
  pub seen : after.seen.count ≡ before.seen.count
  pub prints : UnlessOutput r (Appends out out_after (state_lines verdicts ((route, validity) ∷ [])))

-- lines are validated: their routes have these states, are counted, and are printed unless an error of output ended it
pub record Validates {X : Type 0} (validating : Validating) (vrps : List Vrp) (lines : List (List ℕ)) (before after : Validated) (out out_after : Option (List ℕ)) (r : Result X QuestionsError) : Type 0 where
  pub verdicts : List Verdict
  pub have : HaveVerdicts validating.host_bits vrps lines verdicts
  pub counts : after.counts ≡ with_states before.counts verdicts
  pub seen : after.seen.count ≡ counted before.seen.count (length lines)
  pub prints : UnlessOutput r (Appends out out_after (state_lines validating.verdicts verdicts))

-- a line ends the validation: it is the first bad one if the error is about it, and it and those before it are validated
pub record EndsValidation {X : Type 0} (validating : Validating) (vrps : List Vrp) (lines : List (List ℕ)) (before after : Validated) (out out_after : Option (List ℕ)) (r : Result X QuestionsError) (error : QuestionsError) : Type 0 where
  pub index : ℕ
  pub within : index < length lines
  pub validates : Validates validating vrps (take (index + 1) lines) before after out out_after r
  pub good : validating.bad_routes ≡ Refused → All (IsGoodRoute validating.host_bits) (take index lines)
  pub named : NamesText (IsGoodRoute validating.host_bits (slice_index_or lines index [])) validating.bad_routes (slice_index_or lines index []) (counted before.seen.count (index + 1)) error

-- the line has a route that some VRP covers and none matches
pub record IsInvalidLine (host_bits : HostBits) (vrps : List Vrp) (line : List ℕ) : Type 0 where
  pub route : Announcement
  pub has_route : IsRouteLine host_bits line route
  pub covering : Vrp
  pub listed : Contains vrps covering
  pub covers : Covers covering route.prefix
  pub no_match : (vrp : Vrp) → Contains vrps vrp → ¬ (Matches vrp route.prefix route.origin)
