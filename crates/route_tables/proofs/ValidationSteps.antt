-- Validating lines one after another: the invariant of the loop, what each line shows, what ends it, and when a route is invalid.
use Rattle.std.proofs.Common.{◌≡◌, ◌↔◌, ◌⊎◌, ◌∙◌, ℕ, ◌+◌, ◌-◌, ◌^◌, ◌<◌, List, [], ◌∷◌, ◌++◌, All, IfErr, OnOk, Option, None, Some, Result, Ok, Err, ap, append-nil, append_assoc, arith, get_or, inl, inr, length, length-append, min, refl, subst, sym, take}
use Rattle.std.specs.Io.KnownBytes.{Appends}
use Rattle.std.specs.List.{Any}
use Rattle.std.proofs.Math.Seq.{take-append_seam}
use Rattle.std.proofs.lemmas.List.Elements.{All-append, All-nil}
use Rattle.origin_validation.specs.Validation.{IsValidity, Matches, Covers}
use Rattle.origin_validation.specs.declared.validity.Validity.{Validity}
use Rattle.origin_validation.specs.declared.validity.Validity.TheVariants.{Invalid, NotFound, Valid}
use Rattle.origin_validation.specs.declared.vrp.Vrp.{Vrp}
use Rattle.prefix_trie_joint.specs.Texts.{IpTextLaws}
use Rattle.route_tables.specs.Announcements.{IsRouteLine}
use Rattle.route_tables.specs.Checks.{IsOutput, NamesText, counted}
use Rattle.route_tables.specs.Routes.{IsBlank}
use Rattle.route_tables.specs.Validations.{EndsValidation, HasNoRoute, HaveVerdicts, IsGoodRoute, IsInvalidLine, UnlessOutput, Validates, ValidatesRoute, Verdict, state_lines, verdict_line, verdict_lines, with_state, with_states}
use Rattle.route_tables.specs.declared.announcements.Announcement.{Announcement}
use Rattle.route_tables.specs.declared.commands.questions.QuestionsError.{QuestionsError}
use Rattle.route_tables.specs.declared.commands.questions.QuestionsError.TheVariants.{Output, Question as BadText}
use Rattle.route_tables.specs.declared.commands.validations.StateCounts.{StateCounts}
use Rattle.route_tables.specs.declared.commands.validations.Validated.{Validated}
use Rattle.route_tables.specs.declared.commands.validations.Validating.{Validating}
use Rattle.route_tables.specs.declared.commands.validations.Verdicts.{Verdicts}
use Rattle.route_tables.specs.declared.commands.validations.Verdicts.TheVariants.{Counts, Each}
use Rattle.route_tables.specs.declared.load.BadLines.TheVariants.{Refused}
use Rattle.route_tables.specs.declared.network.HostBits.{HostBits}
use Rattle.route_tables.proofs.CheckSteps.{all_of_one}
use Rattle.route_tables.proofs.Lists.{at_done, some_cons, some_here, some_later, up_to}
use Rattle.route_tables.proofs.Printing.{appends_both}
use Rattle.route_tables.proofs.RouteLines.{one_route}

-- the states of lines and of more lines
verdicts_append : (host_bits : HostBits) (vrps : List Vrp) (lines more : List (List ℕ)) (done rest : List Verdict) → HaveVerdicts host_bits vrps lines done
    → HaveVerdicts host_bits vrps more rest → HaveVerdicts host_bits vrps (lines ++ more) (done ++ rest)
verdicts_append host_bits vrps [] more done rest none have = subst (λ d. HaveVerdicts host_bits vrps more (d ++ rest)) (sym none) have
verdicts_append host_bits vrps (line ∷ later) more done rest (inl (no_route, first)) have = inl (no_route, verdicts_append host_bits vrps later more done rest first have)
verdicts_append host_bits vrps (line ∷ later) more done rest (inr (route, validity, others, is, state, split, first)) have =
    inr (route, validity, others ++ rest, is, state, ap (λ d. d ++ rest) split, verdicts_append host_bits vrps later more others rest first have)

with_states-append : (counts : StateCounts) (done rest : List Verdict) → with_states counts (done ++ rest) ≡ with_states (with_states counts done) rest
with_states-append counts [] rest = refl
with_states-append counts (verdict ∷ done) rest = with_states-append (with_state counts verdict.1) done rest

verdict_lines-append : (done rest : List Verdict) → verdict_lines (done ++ rest) ≡ verdict_lines done ++ verdict_lines rest
verdict_lines-append [] rest = refl
verdict_lines-append (verdict ∷ done) rest =
    ap (λ text. verdict_line verdict.0 verdict.1 ++ text) (verdict_lines-append done rest) ∙ sym (append_assoc (verdict_line verdict.0 verdict.1) (verdict_lines done) (verdict_lines rest))

state_lines-append : (verdicts : Verdicts) (done rest : List Verdict) → state_lines verdicts (done ++ rest) ≡ state_lines verdicts done ++ state_lines verdicts rest
state_lines-append Each done rest = verdict_lines-append done rest
state_lines-append Counts done rest = refl

appends_none : (bytes : Option (List ℕ)) → Appends bytes bytes []
appends_none None = tt
appends_none (Some xs) = sym (append-nil xs)

-- what is printed if an error is not one of output
unless_map : {X : Type 0} (A B : Type 0) → (A → B) → (r : Result X QuestionsError) → UnlessOutput r A → UnlessOutput r B
unless_map A B f (Ok done) a = f a
unless_map A B f (Err (BadText bad)) a = f a
unless_map A B f (Err (Output error)) a = tt

unless_here : {X : Type 0} (A : Type 0) → (r : Result X QuestionsError) → A → UnlessOutput r A
unless_here A (Ok done) a = a
unless_here A (Err (BadText bad)) a = a
unless_here A (Err (Output error)) a = tt

none_printed : (verdicts : Verdicts) (out : Option (List ℕ)) → Appends out out (state_lines verdicts [])
none_printed Each out = appends_none out
none_printed Counts out = appends_none out

module _ (validating : Validating) (vrps : List Vrp) where
  -- the lines so far are validated, and they are good if bad ones are refused
  pub record ValidatesSoFar (all rest : List (List ℕ)) (before now : Validated) (out out_now : Option (List ℕ)) : Type 0 where
    pub done : List (List ℕ)
    pub split : all ≡ done ++ rest
    pub verdicts : List Verdict
    pub have : HaveVerdicts validating.host_bits vrps done verdicts
    pub counts : now.counts ≡ with_states before.counts verdicts
    pub seen : now.seen.count ≡ counted before.seen.count (length done)
    pub prints : Appends out out_now (state_lines validating.verdicts verdicts)
    pub good : validating.bad_routes ≡ Refused → All (IsGoodRoute validating.host_bits) done

  pub validates_start : (all : List (List ℕ)) (before : Validated) (out : Option (List ℕ)) → before.seen.count < 2 ^ 64 → ValidatesSoFar all all before before out out
  validates_start all before out fits = record {
    done = [];
    split = refl;
    verdicts = [];
    have = refl;
    counts = refl;
    seen = omega arith;
    prints = none_printed validating.verdicts out;
    good = λ _. All-nil (IsGoodRoute validating.host_bits);
  }

  -- one more line
  validates_more : {X : Type 0} (all rest : List (List ℕ)) (line : List ℕ) (before now next : Validated) (out out_now out_next : Option (List ℕ)) (r : Result X QuestionsError)
      (old : ValidatesSoFar all rest before now out out_now) → Validates validating vrps (line ∷ []) now next out_now out_next r
      → Validates validating vrps (old.done ++ line ∷ []) before next out out_next r
  validates_more all rest line before now next out out_now out_next r old one = record {
    verdicts = old.verdicts ++ one.verdicts;
    have = verdicts_append validating.host_bits vrps old.done (line ∷ []) old.verdicts one.verdicts old.have one.have;
    counts = one.counts ∙ ap (λ counts. with_states counts one.verdicts) old.counts ∙ sym (with_states-append before.counts old.verdicts one.verdicts);
    seen =
        let long : length (old.done ++ line ∷ []) ≡ length old.done + 1 = length-append old.done (line ∷ []) in
        let first : now.seen.count ≡ min (before.seen.count + length old.done) (2 ^ 64 - 1) = old.seen in
        let then : next.seen.count ≡ min (now.seen.count + 1) (2 ^ 64 - 1) = one.seen in
        omega (arith, long, first, then);
    prints =
        unless_map (Appends out_now out_next (state_lines validating.verdicts one.verdicts)) (Appends out out_next (state_lines validating.verdicts (old.verdicts ++ one.verdicts)))
        (λ prints. let P : List ℕ → Type 0 = Appends out out_next in subst P (sym (state_lines-append validating.verdicts old.verdicts one.verdicts)) (appends_both out out_now out_next (state_lines validating.verdicts old.verdicts) (state_lines validating.verdicts one.verdicts) old.prints prints)) r
        one.prints;
  }

  pub validates_on : {X : Type 0} (all rest later : List (List ℕ)) (line : List ℕ) (before now next : Validated) (out out_now out_next : Option (List ℕ)) (done : X) → rest ≡ line ∷ later
      → Validates validating vrps (line ∷ []) now next out_now out_next (Ok done) → (validating.bad_routes ≡ Refused → IsGoodRoute validating.host_bits line)
      → ValidatesSoFar all rest before now out out_now → ValidatesSoFar all later before next out out_next
  validates_on all rest later line before now next out out_now out_next done split one good old =
      let more = validates_more all rest line before now next out out_now out_next (Ok done) old one in record {
        done = old.done ++ line ∷ [];
        split = old.split ∙ ap (λ r. old.done ++ r) split ∙ sym (append_assoc old.done (line ∷ []) later);
        verdicts = more.verdicts;
        have = more.have;
        counts = more.counts;
        seen = more.seen;
        prints = more.prints;
        good = λ refused. All-append (IsGoodRoute validating.host_bits) old.done (line ∷ []) (old.good refused) (all_of_one (IsGoodRoute validating.host_bits) line (good refused));
      }

  pub validates_end : {X : Type 0} (all rest : List (List ℕ)) (before now : Validated) (out out_now : Option (List ℕ)) (done : X) → rest ≡ [] → ValidatesSoFar all rest before now out out_now
      → Validates validating vrps all before now out out_now (Ok done) × (validating.bad_routes ≡ Refused → All (IsGoodRoute validating.host_bits) all)
  validates_end all rest before now out out_now done none old =
      let whole : old.done ≡ all = sym (old.split ∙ ap (λ r. old.done ++ r) none ∙ append-nil old.done) in (
        record {
          verdicts = old.verdicts;
          have = subst (λ lines. HaveVerdicts validating.host_bits vrps lines old.verdicts) whole old.have;
          counts = old.counts;
          seen = old.seen ∙ ap (λ lines. counted before.seen.count (length lines)) whole;
          prints = old.prints;
        },
        λ refused. subst (All (IsGoodRoute validating.host_bits)) whole (old.good refused),
      )

  pub validates_error : {X : Type 0} (all rest later : List (List ℕ)) (line : List ℕ) (before now next : Validated) (out out_now out_next : Option (List ℕ)) (r : Result X QuestionsError) (error : QuestionsError)
      → rest ≡ line ∷ later → Validates validating vrps (line ∷ []) now next out_now out_next r
      → NamesText (IsGoodRoute validating.host_bits line) validating.bad_routes line next.seen.count error → ValidatesSoFar all rest before now out out_now
      → EndsValidation validating vrps all before next out out_next r error
  validates_error all rest later line before now next out out_now out_next r error split one names old =
      let whole : all ≡ old.done ++ line ∷ later = old.split ∙ ap (λ r. old.done ++ r) split in
      let at : get_or all (length old.done) [] ≡ line = ap (λ xs. get_or xs (length old.done) []) whole ∙ at_done old.done later line [] in
      let more = validates_more all rest line before now next out out_now out_next r old one in
      let count : next.seen.count ≡ counted before.seen.count (length old.done + 1) = more.seen ∙ ap (counted before.seen.count) (length-append old.done (line ∷ [])) in record {
        index = length old.done;
        within = let long : length all ≡ length (old.done ++ line ∷ later) = ap length whole in omega (arith, long, length-append old.done (line ∷ later));
        validates = subst (λ lines. Validates validating vrps lines before next out out_next r) (sym (ap (take (length old.done + 1)) whole ∙ up_to old.done later line)) more;
        good = λ refused. subst (All (IsGoodRoute validating.host_bits)) (sym (ap (take (length old.done)) whole ∙ take-append_seam old.done (line ∷ later))) (old.good refused);
        named = subst (λ x. NamesText (IsGoodRoute validating.host_bits x) validating.bad_routes x (counted before.seen.count (length old.done + 1)) error) (sym at)
            (subst (λ n. NamesText (IsGoodRoute validating.host_bits line) validating.bad_routes line n error) count names);
      }

  -- a line with a route
  pub of_route : {X : Type 0} (line : List ℕ) (route : Announcement) (before mid after : Validated) (out out_after : Option (List ℕ)) (r : Result X QuestionsError) → IsRouteLine validating.host_bits line route
      → mid.counts ≡ before.counts → mid.seen.count ≡ counted before.seen.count 1 → ValidatesRoute validating.verdicts vrps route mid after out out_after r
      → Validates validating vrps (line ∷ []) before after out out_after r
  of_route line route before mid after out out_after r is kept count validates = record {
    verdicts = (route, validates.validity) ∷ [];
    have = inr (route, validates.validity, [], is, validates.is_validity, refl, refl);
    counts = validates.counts ∙ ap (λ counts. with_state counts validates.validity) kept;
    seen = validates.seen ∙ count;
    prints = validates.prints;
  }

  -- a line without one
  pub of_none : {X : Type 0} (line : List ℕ) (before after : Validated) (out : Option (List ℕ)) (r : Result X QuestionsError) → HasNoRoute validating.host_bits line
      → after.counts ≡ before.counts → after.seen.count ≡ counted before.seen.count 1 → Validates validating vrps (line ∷ []) before after out out r
  of_none line before after out r no_route kept count = record {
    verdicts = [];
    have = inl (no_route, refl);
    counts = kept;
    seen = count;
    prints = unless_here (Appends out out (state_lines validating.verdicts [])) r (none_printed validating.verdicts out);
  }

-- a route of which only the state is counted
pub route_counted : {X : Type 0} (verdicts : Verdicts) (vrps : List Vrp) (route : Announcement) (validity : Validity) (before after : Validated) (out : Option (List ℕ)) (r : Result X QuestionsError) → verdicts ≡ Counts
    → IsValidity vrps route.prefix route.origin validity → after.counts ≡ with_state before.counts validity → after.seen.count ≡ before.seen.count → ValidatesRoute verdicts vrps route before after out out r
route_counted verdicts vrps route validity before after out r is state counts seen = record {
  validity = validity;
  is_validity = state;
  counts = counts;
  seen = seen;
  prints = subst (λ v. UnlessOutput r (Appends out out (state_lines v ((route, validity) ∷ [])))) (sym is) (unless_here (Appends out out []) r (appends_none out));
}

-- what a printed line appends, unless an error of output ended it
line_printed : {X : Type 0} (out out_after : Option (List ℕ)) (line : List ℕ) (r : Result X QuestionsError) → OnOk r (Appends out out_after line) → IfErr r IsOutput → UnlessOutput r (Appends out out_after (line ++ []))
line_printed out out_after line (Ok done) printed output = subst (Appends out out_after) (sym (append-nil line)) printed
line_printed out out_after line (Err (BadText bad)) printed output = absurd output
line_printed out out_after line (Err (Output error)) printed output = tt

-- a route that is printed
pub route_printed : {X : Type 0} (verdicts : Verdicts) (vrps : List Vrp) (route : Announcement) (validity : Validity) (before after : Validated) (out out_after : Option (List ℕ)) (r : Result X QuestionsError) → verdicts ≡ Each
    → IsValidity vrps route.prefix route.origin validity → after.counts ≡ with_state before.counts validity → after.seen.count ≡ before.seen.count → OnOk r (Appends out out_after (verdict_line route validity))
    → IfErr r IsOutput → ValidatesRoute verdicts vrps route before after out out_after r
route_printed verdicts vrps route validity before after out out_after r is state counts seen printed output = record {
  validity = validity;
  is_validity = state;
  counts = counts;
  seen = seen;
  prints = subst (λ v. UnlessOutput r (Appends out out_after (state_lines v ((route, validity) ∷ [])))) (sym is) (line_printed out out_after (verdict_line route validity) r printed output);
}

-- a blank line has no route
pub blank_has_none : (host_bits : HostBits) (line : List ℕ) → IsBlank line → HasNoRoute host_bits line
blank_has_none host_bits line blank route is = let e : [] ≡ is.first ∷ is.later = sym blank.0 ∙ is.has_fields in cc

some_more : (n : ℕ) → 0 < min (n + 1) (2 ^ 64 - 1)
some_more n = omega arith

-- whether a state is invalid, and the number of invalid routes after it
module _ (laws : IpTextLaws) (host_bits : HostBits) (vrps : List Vrp) where
  counts_line : (line : List ℕ) (route : Announcement) (validity : Validity) (counts : StateCounts) → IsRouteLine host_bits line route → IsValidity vrps route.prefix route.origin validity
      → (0 < (with_state counts validity).invalid) ↔ ((0 < counts.invalid) ⊎ IsInvalidLine host_bits vrps line)
  counts_line line route (Valid vrp) counts is state = (
    λ more. inl more,
    λ some. elim some [
      | inl more ↦ more
      | inr invalid ↦
          let same : route ≡ invalid.route = one_route laws host_bits line route invalid.route is invalid.has_route in
          absurd (invalid.no_match vrp state.0 (subst (λ r. Matches vrp r.prefix r.origin) same state.1))
    ],
  )
  counts_line line route (Invalid vrp) counts is state = (
    λ _. inr (record { route = route; has_route = is; covering = vrp; listed = state.listed; covers = state.covers; no_match = state.no_match }),
    λ _. some_more counts.invalid,
  )
  counts_line line route NotFound counts is state = (
    λ more. inl more,
    λ some. elim some [
      | inl more ↦ more
      | inr invalid ↦
          let same : route ≡ invalid.route = one_route laws host_bits line route invalid.route is invalid.has_route in
          absurd (state invalid.covering invalid.listed (subst (λ r. Covers invalid.covering r.prefix) (sym same) invalid.covers))
    ],
  )

  -- a route of the lines is invalid exactly if one more was counted
  pub counts_invalid : (lines : List (List ℕ)) (verdicts : List Verdict) (counts : StateCounts) → HaveVerdicts host_bits vrps lines verdicts
      → (0 < (with_states counts verdicts).invalid) ↔ ((0 < counts.invalid) ⊎ Any (IsInvalidLine host_bits vrps) lines)
  counts_invalid [] verdicts counts none =
      let same : (with_states counts verdicts).invalid ≡ counts.invalid = ap (λ v. (with_states counts v).invalid) none in (
        λ more. inl (subst (λ n. 0 < n) same more),
        λ some. elim some [ inl more ↦ subst (λ n. 0 < n) (sym same) more | inr one ↦ absurd (omega (arith, one.2)) ],
      )
  counts_invalid (line ∷ later) verdicts counts (inl (no_route, have)) =
      let rest = counts_invalid later verdicts counts have in (
        λ more. elim (rest.0 more) [ inl already ↦ inl already | inr one ↦ inr (some_later (IsInvalidLine host_bits vrps) line later one) ],
        λ some. elim some [
          | inl already ↦ rest.1 (inl already)
          | inr one ↦ elim (some_cons (IsInvalidLine host_bits vrps) line later one) [
            | inl here ↦ absurd (no_route here.route here.has_route)
            | inr after ↦ rest.1 (inr after)
          ]
        ],
      )
  counts_invalid (line ∷ later) verdicts counts (inr (route, validity, others, is, state, split, have)) =
      let same : (with_states counts verdicts).invalid ≡ (with_states (with_state counts validity) others).invalid = ap (λ v. (with_states counts v).invalid) split in
      let rest = counts_invalid later others (with_state counts validity) have in
      let first = counts_line line route validity counts is state in (
        λ more. elim (rest.0 (subst (λ n. 0 < n) same more)) [
          | inl now ↦ elim (first.0 now) [ inl already ↦ inl already | inr here ↦ inr (some_here (IsInvalidLine host_bits vrps) line later here) ]
          | inr one ↦ inr (some_later (IsInvalidLine host_bits vrps) line later one)
        ],
        λ some. subst (λ n. 0 < n) (sym same) (rest.1 (elim some [
          | inl already ↦ inl (first.1 (inl already))
          | inr one ↦ elim (some_cons (IsInvalidLine host_bits vrps) line later one) [
            | inl here ↦ inl (first.1 (inr here))
            | inr after ↦ inr after
          ]
        ])),
      )

-- a route of all lines is invalid exactly if one more was counted
pub counts_all : (validating : Validating) (vrps : List Vrp) (all rest : List (List ℕ)) (before now : Validated) (out out_now : Option (List ℕ)) → IpTextLaws → rest ≡ []
    → ValidatesSoFar validating vrps all rest before now out out_now
    → (0 < now.counts.invalid) ↔ ((0 < before.counts.invalid) ⊎ Any (IsInvalidLine validating.host_bits vrps) all)
counts_all validating vrps all rest before now out out_now laws none old =
    let whole = (validates_end validating vrps all rest before now out out_now (tt {0}) none old).0 in
    let counted_so = counts_invalid laws validating.host_bits vrps all whole.verdicts before.counts whole.have in
    let same : now.counts.invalid ≡ (with_states before.counts whole.verdicts).invalid = ap (λ (counts : StateCounts). counts.invalid) whole.counts in
    (λ more. counted_so.0 (subst (λ n. 0 < n) same more), λ some. subst (λ n. 0 < n) (sym same) (counted_so.1 some))
