-- The lines of routes: a field is at most one hop, and a line has at most one route: for reading paths, and for counting invalid routes.
use Rattle.std.proofs.Common.{◌≡◌, ◌↔◌, ◌∙◌, ℕ, List, [], ◌∷◌, MatchResult, Option, None, Some, Result, Ok, Err, ap, false, inl, inr, refl, subst, sym, true≢false}
use Rattle.std.specs.Str.{IsUtf8}
use Rattle.prefix_trie_joint.specs.Texts.{IpTextLaws}
use Rattle.prefix_trie_joint.specs.declared.prefix.IpPrefix.{IpPrefix}
use Rattle.route_tables.specs.Announcements.{AreFieldsOfRoute, EndsPath, IsBadRoute, IsHop, IsPath, IsPathError, IsRoutePrefixError, IsRouteError, IsRouteFieldsError, IsRouteLine, is_of_set}
use Rattle.route_tables.specs.AsNumbers.{IsAsNumber}
use Rattle.route_tables.specs.Lines.{fields}
use Rattle.route_tables.specs.Networks.{IsNetworkText}
use Rattle.route_tables.specs.declared.announcements.Announcement.{Announcement}
use Rattle.route_tables.specs.declared.network.HostBits.{HostBits}
use Rattle.route_tables.specs.declared.questions.QuestionError.{QuestionError}
use Rattle.route_tables.specs.declared.questions.QuestionError.TheVariants.{Address, AsNumber, BareReturn, ExtraField, Network, NoOrigin, NotUtf8}
use Rattle.route_tables.proofs.VrpSteps.{one_network}

-- a field denotes one hop
one_hop : (field : List ℕ) (a b : Option ℕ) → IsHop field a → IsHop field b → a ≡ b
one_hop field None None is also = refl
one_hop field None (Some n) is also = absurd (true≢false (sym is ∙ also.0))
one_hop field (Some m) None is also = absurd (true≢false (sym also ∙ is.0))
one_hop field (Some m) (Some n) is also = ap Some (is.1.value ∙ sym also.1.value)

-- a field that is neither a set nor an AS number denotes none
pub no_hop : (field : List ℕ) → is_of_set field ≡ false → ((n : ℕ) → ¬ (IsAsNumber field n)) → (hop : Option ℕ) → ¬ (IsHop field hop)
no_hop field not_set none None is = true≢false (sym is ∙ not_set)
no_hop field not_set none (Some n) is = none n is.1

one_end : (later : List (List ℕ)) (hop : Option ℕ) (a b : Option ℕ) → EndsPath hop later a → EndsPath hop later b → a ≡ b
one_end [] hop a b is also = is ∙ sym also
one_end (field ∷ later) hop a b (next, is, ends) (other, also, too) =
    one_end later next a b ends (subst (λ n. EndsPath n later b) (one_hop field other next also is) too)

-- a path has one origin
one_path : (later : List (List ℕ)) (a b : Option ℕ) → IsPath later a → IsPath later b → a ≡ b
one_path [] a b is also = absurd is
one_path (field ∷ later) a b (hop, is, ends) (other, also, too) =
    one_end later hop a b ends (subst (λ n. EndsPath n later b) (one_hop field other hop also is) too)

abbrev route_of : IpPrefix → Option ℕ → Announcement
route_of prefix origin = record { prefix = prefix; origin = origin }

-- a line has at most one route
pub one_route : IpTextLaws → (host_bits : HostBits) (line : List ℕ) (a b : Announcement) → IsRouteLine host_bits line a → IsRouteLine host_bits line b → a ≡ b
one_route laws host_bits line a b is also =
    let same : is.first ∷ is.later ≡ also.first ∷ also.later = sym is.has_fields ∙ also.has_fields in
    let first : is.first ≡ also.first = cc in
    let later : is.later ≡ also.later = cc in
    let prefix : a.prefix ≡ b.prefix =
    one_network laws host_bits also.first a.prefix b.prefix (let P : List ℕ → Type 0 = λ f. AreFieldsOfRoute host_bits f is.later a in (subst P first is.are_fields).prefix) also.are_fields.prefix in
    let origin : a.origin ≡ b.origin = one_path also.later a.origin b.origin (let P : List (List ℕ) → Type 0 = λ l. AreFieldsOfRoute host_bits is.first l a in (subst P later is.are_fields).path) also.are_fields.path in
    ap (λ p. route_of p a.origin) prefix ∙ ap (λ o. route_of b.prefix o) origin

-- what is left of a path after the fields so far, the last of which denotes a hop
abbrev pub PathSoFar : Option ℕ → List (List ℕ) → List (List ℕ) → Option ℕ → Type 0
PathSoFar hop all rest last = (origin : Option ℕ) → EndsPath last rest origin ↔ EndsPath hop all origin

pub path_on : (hop : Option ℕ) (all rest later : List (List ℕ)) (field : List ℕ) (last next : Option ℕ) → rest ≡ field ∷ later → IsHop field next → PathSoFar hop all rest last
    → PathSoFar hop all later next
path_on hop all rest later field last next split is old origin = (
  λ ends. (old origin).0 (subst (λ r. EndsPath last r origin) (sym split) (next, is, ends)),
  λ path.
      let here : EndsPath last (field ∷ later) origin = subst (λ r. EndsPath last r origin) split ((old origin).1 path) in
      subst (λ h. EndsPath h later origin) (one_hop field here.0 next here.1 is) here.2,
)

-- after the last field the hop is the origin
pub path_end : (hop : Option ℕ) (all rest : List (List ℕ)) (last : Option ℕ) → rest ≡ [] → PathSoFar hop all rest last → EndsPath hop all last
path_end hop all rest last none old = (old last).0 (subst (λ r. EndsPath last r last) (sym none) refl)

-- a field that is no hop is not one of a path
pub no_path : (hop : Option ℕ) (all rest later : List (List ℕ)) (field : List ℕ) (last : Option ℕ) → rest ≡ field ∷ later → ((next : Option ℕ) → ¬ (IsHop field next))
    → PathSoFar hop all rest last → (origin : Option ℕ) → ¬ (EndsPath hop all origin)
no_path hop all rest later field last split none old origin path =
    let here : EndsPath last (field ∷ later) origin = subst (λ r. EndsPath last r origin) split ((old origin).1 path) in none here.0 here.1

-- the fields after the first hop decide
pub path_rest : (field : List ℕ) (later : List (List ℕ)) (hop : Option ℕ) (r : Result (Option ℕ) QuestionError) → IsHop field hop
    → MatchResult r (EndsPath hop later) (λ error. (error ≡ AsNumber) × ((origin : Option ℕ) → ¬ (EndsPath hop later origin)))
    → MatchResult r (IsPath (field ∷ later)) (λ error. (error ≡ AsNumber) × ((origin : Option ℕ) → ¬ (IsPath (field ∷ later) origin)))
path_rest field later hop (Ok origin) is ends = (hop, is, ends)
path_rest field later hop (Err error) is none = (
  none.0,
  λ origin (other, also, ends). none.1 origin (subst (λ h. EndsPath h later origin) (one_hop field other hop also is) ends),
)

-- a path has a first field
pub path_of : (all : List (List ℕ)) (field : List ℕ) (later : List (List ℕ)) (r : Result (Option ℕ) QuestionError) → all ≡ field ∷ later
    → MatchResult r (IsPath (field ∷ later)) (λ error. (error ≡ AsNumber) × ((origin : Option ℕ) → ¬ (IsPath (field ∷ later) origin)))
    → MatchResult r (IsPath all) (λ error. IsPathError all error × ((origin : Option ℕ) → ¬ (IsPath all origin)))
path_of all field later (Ok origin) split is = subst (λ a. IsPath a origin) (sym split) is
path_of all field later (Err error) split (is, none) =
    let some : (origin : Option ℕ) → ¬ (IsPath all origin) = λ origin path. none origin (subst (λ a. IsPath a origin) split path) in (
      subst (IsPathError all) (sym is) (λ empty. let e : field ∷ later ≡ [] = sym split ∙ empty in cc, some),
      some,
    )

-- without fields there is no path
pub no_fields_path : (all : List (List ℕ)) → all ≡ [] → (origin : Option ℕ) → ¬ (IsPath all origin)
no_fields_path all none origin path = let P : List (List ℕ) → Type 0 = λ a. IsPath a origin in subst P none path

-- a field is a prefix if its text is one
pub prefix_of_text : (host_bits : HostBits) (field text : List ℕ) (r : Result IpPrefix QuestionError) → text ≡ field → IsUtf8 field
    → MatchResult r (IsNetworkText host_bits text) (IsRoutePrefixError host_bits text) → MatchResult r (λ prefix. IsUtf8 field × IsNetworkText host_bits field prefix) (IsRoutePrefixError host_bits field)
prefix_of_text host_bits field text (Ok prefix) same utf8 is = (utf8, subst (λ t. IsNetworkText host_bits t prefix) same is)
prefix_of_text host_bits field text (Err error) same utf8 wrong = subst (λ t. IsRoutePrefixError host_bits t error) same wrong

-- a field that is no prefix is not the first of a route
no_prefix : (host_bits : HostBits) (first : List ℕ) (later : List (List ℕ)) (error : QuestionError) → IsRoutePrefixError host_bits first error
    → (route : Announcement) → ¬ (AreFieldsOfRoute host_bits first later route)
no_prefix host_bits first later NotUtf8 wrong route is = wrong is.utf8
no_prefix host_bits first later (Network error) wrong route is = wrong route.prefix is.prefix
no_prefix host_bits first later BareReturn wrong route is = absurd wrong
no_prefix host_bits first later Address wrong route is = absurd wrong
no_prefix host_bits first later ExtraField wrong route is = absurd wrong
no_prefix host_bits first later NoOrigin wrong route is = absurd wrong
no_prefix host_bits first later AsNumber wrong route is = absurd wrong

module _ (host_bits : HostBits) (first : List ℕ) (later : List (List ℕ)) where
  pub wrong_prefix : (error : QuestionError) → IsRoutePrefixError host_bits first error
      → IsRouteFieldsError host_bits first later error × ((route : Announcement) → ¬ (AreFieldsOfRoute host_bits first later route))
  wrong_prefix error wrong = (inl wrong, no_prefix host_bits first later error wrong)

  pub wrong_path : (error : QuestionError) (prefix : IpPrefix) → IsNetworkText host_bits first prefix → IsPathError later error → ((origin : Option ℕ) → ¬ (IsPath later origin))
      → IsRouteFieldsError host_bits first later error × ((route : Announcement) → ¬ (AreFieldsOfRoute host_bits first later route))
  wrong_path error prefix is wrong none = (inr ((prefix, is), wrong), λ route are. none route.origin are.path)

-- why a line has no route, from its fields
reason_of : (host_bits : HostBits) (line first : List ℕ) (later : List (List ℕ)) (error : QuestionError) → fields line ≡ first ∷ later → IsRouteFieldsError host_bits first later error
    → IsRouteError host_bits line error
reason_of host_bits line first later BareReturn split (inl wrong) = absurd wrong
reason_of host_bits line first later BareReturn split (inr wrong) = absurd wrong.1
reason_of host_bits line first later NotUtf8 split wrong = (first, later, split, wrong)
reason_of host_bits line first later Address split wrong = (first, later, split, wrong)
reason_of host_bits line first later (Network error) split wrong = (first, later, split, wrong)
reason_of host_bits line first later ExtraField split wrong = (first, later, split, wrong)
reason_of host_bits line first later NoOrigin split wrong = (first, later, split, wrong)
reason_of host_bits line first later AsNumber split wrong = (first, later, split, wrong)

pub bad_route : (host_bits : HostBits) (line first : List ℕ) (later : List (List ℕ)) (error : QuestionError) → fields line ≡ first ∷ later
    → IsRouteFieldsError host_bits first later error × ((route : Announcement) → ¬ (AreFieldsOfRoute host_bits first later route)) → IsBadRoute host_bits line error
bad_route host_bits line first later error split wrong = record {
  is_some = λ blank. let e : [] ≡ first ∷ later = sym blank.0 ∙ split in cc;
  is_none = λ route is.
      let same : is.first ∷ is.later ≡ first ∷ later = sym is.has_fields ∙ split in
      let of_first : is.first ≡ first = cc in
      let of_later : is.later ≡ later = cc in
      wrong.1 route (subst (λ f. AreFieldsOfRoute host_bits f later route) of_first (subst (λ l. AreFieldsOfRoute host_bits is.first l route) of_later is.are_fields));
  reason = reason_of host_bits line first later error split wrong.0;
}
