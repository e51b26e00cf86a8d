-- The laws of runs that record how many nodes each call reads: for `counted_laws` and the headline.
use Rattle.prefix_trie_bits.proofs.Prelude.{◌≡◌, ◌≢◌, ◌<◌, ◌≤◌, map, take, get_or, ℕ, ◌+◌, Bool, true, false, List, [], ◌∷◌, ◌++◌, length, Option, None, Some, MatchOption, refl, sym, ap, ◌∙◌, subst, true≢false, take_more, map-append, All-head, All-tail, All-nil, All-cons, State, Call, Insert, Get, Lpm, Spm, Remove, RemoveKeepTree, RemoveChildren, RetainAtLeast, Clear, ListFrom, Children, Cover, CallFits, Reply, Step, Runs, Storage, RunInStorage, tidy_after, tidy_after_all, TidyIf, CountsReads, CountedStep, CountedFrom, ReadsExactly, CountedLaws, IsMap}
use Rattle.std.specs.List.{All}
use Rattle.prefix_trie_bits.proofs.Model.Runs.{runs_join}
use Rattle.prefix_trie_bits.proofs.Model.Steps.{stays_map, step_laws}

module _ {P T : Type 0} where
  abbrev keeps_tree : Call P T → Bool
  keeps_tree (RemoveKeepTree q) = true
  keeps_tree call = false

  -- a call that fits by one condition on prefixes also fits by a weaker one
  fits_more : {Fits More : P → Type 0} → ((q : P) → Fits q → More q) → (call : Call P T) → CallFits Fits call → CallFits More call
  fits_more more (Insert q v) fit = more q fit
  fits_more more (Get q) fit = more q fit
  fits_more more (Lpm q) fit = more q fit
  fits_more more (Spm q) fit = more q fit
  fits_more more (Remove q) fit = more q fit
  fits_more more (RemoveKeepTree q) fit = more q fit
  fits_more more (RemoveChildren q) fit = more q fit
  fits_more more (ListFrom q inclusive) fit = more q fit
  fits_more more (Children q) fit = more q fit
  fits_more more (Cover q) fit = more q fit
  fits_more more call fit = tt

  -- the same for each call of a list
  pub all_fit_more : {Fits More : P → Type 0} {C' : Type 0} → ((q : P) → Fits q → More q) → (call_of : C' → Call P T) (calls : List C') → All (λ c. CallFits Fits (call_of c)) calls → All (CallFits More) (map call_of calls)
  all_fit_more {Fits} {More} more call_of [] fit = All-nil (CallFits More)
  all_fit_more {Fits} {More} more call_of (c ∷ cs) fit =
      All-cons (CallFits More) (call_of c) (map call_of cs) (fits_more more (call_of c) (All-head (λ c. CallFits Fits (call_of c)) c cs fit))
      (all_fit_more more call_of cs (All-tail (λ c. CallFits Fits (call_of c)) c cs fit))

  another : (call : Call P T) → keeps_tree call ≡ false → (q : P) → call ≢ RemoveKeepTree q
  another call off q is = true≢false (sym (ap keeps_tree is) ∙ off)

module _ {P T : Type 0} where
  still_known : (call : Call P T) → ((q : P) → call ≢ RemoveKeepTree q) → tidy_after true call ≡ true
  still_known (RemoveKeepTree q) other = absurd (other q refl)
  still_known (RetainAtLeast n) other = refl
  still_known Clear other = refl
  still_known call other = refl

-- two counts that both are the exact number for q are equal
alike : (q : List Bool) (n : ℕ) (read other : Option ℕ) → MatchOption read ⊥ (ReadsExactly q n) → MatchOption other ⊥ (ReadsExactly q n) → read ≡ other
alike q n None other a b = absurd a
alike q n read None a b = absurd b
alike q n (Some count) (Some again) a b = ap Some (a.exact ∙ sym b.exact)

module _ {P T : Type 0} (path : P → List Bool) where
  reads_alike : (s : State T) (call : Call P T) (read other : Option ℕ) → CountsReads path s call read → CountsReads path s call other → read ≡ other
  reads_alike s (Get q) read other a b = alike (path q) _ read other a b
  reads_alike s (Lpm q) read other a b = alike (path q) _ read other a b
  reads_alike s (Spm q) read other a b = alike (path q) _ read other a b
  reads_alike s call read other a b = a ∙ sym b

module _ {P T : Type 0} (path : P → List Bool) (back : List Bool → P) (width : ℕ) where
  -- every call except `remove_keep_tree` leaves a tidy map tidy
  stays : (tidy : Bool) (s : State T) (call : Call P T) (reply : Reply P T) (t : State T) → keeps_tree call ≡ false → Step path back width s call reply t → IsMap width s → TidyIf tidy s → TidyIf tidy t
  stays tidy s call reply t off step good is_tidy is =
      ((step_laws P T).of_step path back width s call reply t step).stays_tidy (another call off) good (is_tidy is)

  -- the new state is a map again, and still tidy if no call kept empty nodes
  tidy_step : (tidy : Bool) (s : State T) (call : Call P T) (reply : Reply P T) (t : State T) → Step path back width s call reply t → IsMap width s → TidyIf tidy s → TidyIf (tidy_after tidy call) t
  tidy_step tidy s (RemoveKeepTree q) reply t step good is_tidy = λ is. absurd (true≢false (sym is))
  tidy_step tidy s (RetainAtLeast n) reply t step good is_tidy = λ _. ((step_laws P T).of_step path back width s (RetainAtLeast n) reply t step).retained_tidy n refl
  tidy_step tidy s Clear reply t step good is_tidy = λ _. ((step_laws P T).of_step path back width s Clear reply t step).cleared_tidy refl
  tidy_step tidy s call reply t step good is_tidy = stays tidy s call reply t refl step good is_tidy

  -- the steps so far with their counts, as the loop of `run` collects them; tidiness is left out
  abbrev pub StepsSoFar : State T × Storage → List (Call P T) → List (Reply P T) → List (Option ℕ) → State T × Storage → Type 0
  StepsSoFar s calls replies reads t =
      (answers : List (Reply P T × Option ℕ)) × (map (λ a. a.0) answers ≡ replies) × (map (λ a. a.1) answers ≡ reads) × Runs (CountedStep path back width) s calls answers t

  -- one more step, as in one iteration of the loop
  pub step_pushed : {C' R' : Type 0} (call_of : C' → Call P T) (reply_of : R' → Reply P T) (s t u : State T × Storage) (calls : List C') (replies pushed : List R') (reads more : List (Option ℕ)) (i : ℕ) (call : C') (reply : R') (read : Option ℕ)
      → i < length calls → call ≡ get_or calls i call → pushed ≡ replies ++ reply ∷ [] → more ≡ reads ++ read ∷ []
      → StepsSoFar s (map call_of (take i calls)) (map reply_of replies) reads t → CountedStep path back width t (call_of call) (reply_of reply, read) u
      → StepsSoFar s (map call_of (take (i + 1) calls)) (map reply_of pushed) more u
  step_pushed call_of reply_of s t u calls replies pushed reads more i call reply read short is replied counted (answers, e, f, ran) step =
      let calls_now : map call_of (take (i + 1) calls) ≡ map call_of (take i calls) ++ call_of call ∷ [] =
      ap (map call_of) (take_more calls i call short) ∙ map-append call_of (take i calls) (get_or calls i call ∷ []) ∙ ap (λ x. map call_of (take i calls) ++ call_of x ∷ []) (sym is) in
      let one : Runs (CountedStep path back width) t (call_of call ∷ []) ((reply_of reply, read) ∷ []) u = ((reply_of reply, read), [], u, refl, step, (refl, refl)) in (
        answers ++ (reply_of reply, read) ∷ [],
        map-append (λ a. a.0) answers ((reply_of reply, read) ∷ []) ∙ ap (λ rs. rs ++ reply_of reply ∷ []) e ∙ sym (ap (map reply_of) replied ∙ map-append reply_of replies (reply ∷ [])),
        map-append (λ a. a.1) answers ((reply_of reply, read) ∷ []) ∙ ap (λ ns. ns ++ read ∷ []) f ∙ sym counted,
        subst (λ cs. Runs (CountedStep path back width) s cs (answers ++ (reply_of reply, read) ∷ []) u) (sym calls_now)
            (runs_join (CountedStep path back width) s t u (map call_of (take i calls)) (call_of call ∷ []) answers ((reply_of reply, read) ∷ []) ran one),
      )

  counted_of : (tidy : Bool) (s : State T × Storage) (calls : List (Call P T)) (answers : List (Reply P T × Option ℕ)) (t : State T × Storage) → All (CallFits (λ q. length (path q) ≤ width)) calls → IsMap width s.0 → TidyIf tidy s.0
      → Runs (CountedStep path back width) s calls answers t → CountedFrom path back width tidy s calls (map (λ a. a.0) answers) (map (λ a. a.1) answers) t
  counted_of tidy s [] answers t fit good is_tidy (none, e) =
      (ap (map (λ a. a.0)) none, ap (map (λ a. a.1)) none, e, subst (λ x. TidyIf tidy x.0) (sym e) is_tidy)
  counted_of tidy s (c ∷ cs) answers t fit good is_tidy ((reply, read), later, u, e, step, ran) = (
    reply,
    map (λ a. a.0) later,
    read,
    map (λ a. a.1) later,
    u,
    ap (map (λ a. a.0)) e,
    ap (map (λ a. a.1)) e,
    is_tidy,
    step,
    counted_of (tidy_after tidy c) u cs later t (All-tail (CallFits (λ q. length (path q) ≤ width)) c cs fit)
        (stays_map path back width s.0 c reply u.0 (All-head (CallFits (λ q. length (path q) ≤ width)) c cs fit) step.step.step good)
        (tidy_step tidy s.0 c reply u.0 step.step.step good is_tidy) ran,
  )

  -- if the run starts from a map, the collected steps are a run with its counts
  pub run_counted : (tidy : Bool) (s : State T × Storage) (calls : List (Call P T)) (replies : List (Reply P T)) (reads : List (Option ℕ)) (t : State T × Storage) → All (CallFits (λ q. length (path q) ≤ width)) calls → IsMap width s.0 → TidyIf tidy s.0
      → StepsSoFar s calls replies reads t → CountedFrom path back width tidy s calls replies reads t
  run_counted tidy s calls replies reads t fit good is_tidy (answers, e, f, ran) =
      subst (λ rs. CountedFrom path back width tidy s calls rs reads t) e (subst (λ ns. CountedFrom path back width tidy s calls (map (λ a. a.0) answers) ns t) f
      (counted_of tidy s calls answers t fit good is_tidy ran))

  in_storage : (tidy : Bool) (s : State T × Storage) (calls : List (Call P T)) (replies : List (Reply P T)) (reads : List (Option ℕ)) (t : State T × Storage) → CountedFrom path back width tidy s calls replies reads t → RunInStorage path back width s calls replies t
  in_storage tidy s [] replies reads t (none, _, e, _) = (none, e)
  in_storage tidy s (c ∷ cs) replies reads t (reply, later, read, more, u, e, _, _, step, ran) =
      (reply, later, u, e, step.step, in_storage (tidy_after tidy c) u cs later more t ran)

  begins_tidy : (tidy : Bool) (s : State T × Storage) (calls : List (Call P T)) (replies : List (Reply P T)) (reads : List (Option ℕ)) (t : State T × Storage) → CountedFrom path back width tidy s calls replies reads t → TidyIf tidy s.0
  begins_tidy tidy s [] replies reads t (_, _, e, is_tidy) = subst (λ x. TidyIf tidy x.0) e is_tidy
  begins_tidy tidy s (c ∷ cs) replies reads t (reply, later, read, more, u, _, _, is_tidy, step, ran) = is_tidy

  ends_tidy : (tidy : Bool) (s : State T × Storage) (calls : List (Call P T)) (replies : List (Reply P T)) (reads : List (Option ℕ)) (t : State T × Storage) → CountedFrom path back width tidy s calls replies reads t → TidyIf (tidy_after_all tidy calls) t.0
  ends_tidy tidy s [] replies reads t (_, _, e, is_tidy) = is_tidy
  ends_tidy tidy s (c ∷ cs) replies reads t (reply, later, read, more, u, _, _, _, step, ran) = ends_tidy (tidy_after tidy c) u cs later more t ran

  splits : (tidy : Bool) (s : State T × Storage) (calls more : List (Call P T)) (replies : List (Reply P T)) (reads : List (Option ℕ)) (t : State T × Storage) → CountedFrom path back width tidy s (calls ++ more) replies reads t
      → (first rest : List (Reply P T)) × (early late : List (Option ℕ)) × (u : State T × Storage) × (replies ≡ first ++ rest) × (reads ≡ early ++ late)
      × CountedFrom path back width tidy s calls first early u × CountedFrom path back width (tidy_after_all tidy calls) u more rest late t
  splits tidy s [] more replies reads t ran =
      ([], replies, [], reads, s, refl, refl, (refl, refl, refl, begins_tidy tidy s more replies reads t ran), ran)
  splits tidy s (c ∷ cs) more replies reads t (reply, later, read, others, mid, e, f, is_tidy, step, ran) =
      let (first, rest, early, late, u, g, h, before, behind) = splits (tidy_after tidy c) mid cs more later others t ran in
      (reply ∷ first, rest, read ∷ early, late, u, e ∙ ap (λ rs. reply ∷ rs) g, f ∙ ap (λ ns. read ∷ ns) h, (reply, first, read, early, mid, refl, refl, is_tidy, step, before), behind)

pub counted_laws : (P T : Type 0) → CountedLaws P T
counted_laws P T = record {
  reads_alike = reads_alike;
  retained_known = λ tidy call n e. ap (tidy_after tidy) e;
  cleared_known = λ tidy call e. ap (tidy_after tidy) e;
  still_known = still_known;
  is_run = in_storage;
  ends_tidy = ends_tidy;
  splits = splits;
}
