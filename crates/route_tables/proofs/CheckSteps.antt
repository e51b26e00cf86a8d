-- Checking texts one after another: the invariant of the loops, what each text shows, and what ends them: for `check_lines` and
-- `check_words`.
use Rattle.std.proofs.Common.{◌≡◌, ◌↔◌, ◌∙◌, ℕ, ◌+◌, ◌-◌, ◌^◌, ◌<◌, ◌≤◌, true, false, List, [], ◌∷◌, ◌++◌, All, OnOk, Option, None, Some, Result, Ok, Err, ap, append-nil, append_assoc, arith, drop, get_or, inl, inr, length, length-append, map, min, refl, subst, suc, sym, take, true≢false, zero}
use Rattle.std.specs.Bool.{⊤}
use Rattle.std.specs.Borrow.{Bor}
use Rattle.std.proofs.Math.Seq.{take-append_seam}
use Rattle.std.proofs.NetLemmas.Theorems.{IsIpText_unique}
use Rattle.std.proofs.lemmas.List.Elements.{All-append, All-cons, All-nil}
use Rattle.prefix_trie_joint.specs.Networks.{ip_host, ip_path}
use Rattle.prefix_trie_joint.specs.declared.prefix.IpPrefix.{IpPrefix}
use Rattle.route_tables.specs.Access.{IsAllowed}
use Rattle.route_tables.specs.Checks.{EndsCheck, HasChecked, IsAllowedLine, IsAllowedWord, IsGoodLine, NamesText, asking_of, counted}
use Rattle.route_tables.specs.Questions.{IsAsked, IsQuestion, ReadsLine, as_mapped}
use Rattle.route_tables.specs.Tables.{Values}
use Rattle.route_tables.specs.declared.commands.questions.QuestionsError.{QuestionsError}
use Rattle.route_tables.specs.declared.commands.questions.QuestionsError.TheVariants.{Output, Question as BadText}
use Rattle.route_tables.specs.declared.commands.checks.Checked.{Checked}
use Rattle.route_tables.specs.declared.commands.checks.Checking.{Checking}
use Rattle.route_tables.specs.declared.load.BadLines.{BadLines}
use Rattle.route_tables.specs.declared.load.BadLines.TheVariants.{Refused}
use Rattle.route_tables.specs.declared.access.Precedence.{Precedence}
use Rattle.route_tables.specs.declared.questions.Asked.TheVariants.{Addresses}
use Rattle.route_tables.specs.declared.questions.Question.{Question}
use Rattle.route_tables.specs.declared.questions.QuestionError.{QuestionError}
use Rattle.route_tables.proofs.Lists.{at_done, up_to}

-- the texts so far are checked, and they are good if bad ones are refused
pub record ChecksSoFar (Good Allowed : List ℕ → Type 0) (checking : Checking) (all rest : List (List ℕ)) (before now : Checked) : Type 0 where
  pub done : List (List ℕ)
  pub split : all ≡ done ++ rest
  pub checked : HasChecked Allowed done before now
  pub good : checking.bad_questions ≡ Refused → All Good done

module _ (P : List ℕ → Type 0) where
  all_front : (xs : List (List ℕ)) (x : List ℕ) → All P (xs ++ x ∷ []) → All P xs
  all_front [] x all = All-nil P
  all_front (y ∷ ys) x all = All-cons P y ys (all 0 y (omega arith)) (all_front ys x (λ k d less. all (suc k) d (omega arith)))

  all_last : (xs : List (List ℕ)) (x : List ℕ) → All P (xs ++ x ∷ []) → P x
  all_last [] x all = all 0 x (omega arith)
  all_last (y ∷ ys) x all = all_last ys x (λ k d less. all (suc k) d (omega arith))

  pub all_of_one : (x : List ℕ) → P x → All P (x ∷ [])
  all_of_one x is = All-cons P x [] is (All-nil P)

  pub one_of_all : (x : List ℕ) → All P (x ∷ []) → P x
  one_of_all x all = all_last [] x all

checked_more : (Allowed : List ℕ → Type 0) (done : List (List ℕ)) (text : List ℕ) (before now next : Checked) → HasChecked Allowed done before now
    → HasChecked Allowed (text ∷ []) now next → HasChecked Allowed (done ++ text ∷ []) before next
checked_more Allowed done text before now next (so_far, count) (one, counts) = (
  (
    λ is.
        let here = one.0 is in
        let front = so_far.0 here.0 in
        (front.0, All-append Allowed done (text ∷ []) front.1 here.1),
    λ is. one.1 (so_far.1 (is.0, all_front Allowed done text is.1), all_of_one Allowed text (all_last Allowed done text is.1)),
  ),
  let long : length (done ++ text ∷ []) ≡ length done + 1 = length-append done (text ∷ []) in
      let first : now.seen.count ≡ min (before.seen.count + length done) (2 ^ 64 - 1) = count in
      let then : next.seen.count ≡ min (now.seen.count + 1) (2 ^ 64 - 1) = counts in
      omega (arith, long, first, then),
)

module _ (Good Allowed : List ℕ → Type 0) (checking : Checking) where
  pub check_start : (all : List (List ℕ)) (before : Checked) → before.seen.count < 2 ^ 64 → ChecksSoFar Good Allowed checking all all before before
  check_start all before fits = record {
    done = [];
    split = refl;
    checked = ((λ is. (is, All-nil Allowed), λ is. is.0), omega arith);
    good = λ _. All-nil Good;
  }

  pub check_on : (all rest later : List (List ℕ)) (text : List ℕ) (before now next : Checked) → rest ≡ text ∷ later → HasChecked Allowed (text ∷ []) now next
      → (checking.bad_questions ≡ Refused → Good text) → ChecksSoFar Good Allowed checking all rest before now → ChecksSoFar Good Allowed checking all later before next
  check_on all rest later text before now next split one good old = record {
    done = old.done ++ text ∷ [];
    split = old.split ∙ ap (λ r. old.done ++ r) split ∙ sym (append_assoc old.done (text ∷ []) later);
    checked = checked_more Allowed old.done text before now next old.checked one;
    good = λ refused. All-append Good old.done (text ∷ []) (old.good refused) (all_of_one Good text (good refused));
  }

  pub check_end : (all rest : List (List ℕ)) (before now : Checked) → rest ≡ [] → ChecksSoFar Good Allowed checking all rest before now
      → HasChecked Allowed all before now × (checking.bad_questions ≡ Refused → All Good all)
  check_end all rest before now none old =
      let whole : old.done ≡ all = sym (old.split ∙ ap (λ r. old.done ++ r) none ∙ append-nil old.done) in
      (subst (λ texts. HasChecked Allowed texts before now) whole old.checked, λ refused. subst (All Good) whole (old.good refused))

  pub check_error : (all rest later : List (List ℕ)) (text : List ℕ) (before now next : Checked) (error : QuestionsError) → rest ≡ text ∷ later
      → HasChecked Allowed (text ∷ []) now next → NamesText (Good text) checking.bad_questions text next.seen.count error → ChecksSoFar Good Allowed checking all rest before now
      → EndsCheck Good Allowed checking all before next error
  check_error all rest later text before now next error split one names old =
      let whole : all ≡ old.done ++ text ∷ later = old.split ∙ ap (λ r. old.done ++ r) split in
      let at : get_or all (length old.done) [] ≡ text = ap (λ xs. get_or xs (length old.done) []) whole ∙ at_done old.done later text [] in
      let checks : HasChecked Allowed (old.done ++ text ∷ []) before next = checked_more Allowed old.done text before now next old.checked one in
      let count : next.seen.count ≡ counted before.seen.count (length old.done + 1) = checks.1 ∙ ap (counted before.seen.count) (length-append old.done (text ∷ [])) in record {
        index = length old.done;
        within = let long : length all ≡ length (old.done ++ text ∷ later) = ap length whole in omega (arith, long, length-append old.done (text ∷ later));
        checked = subst (λ texts. HasChecked Allowed texts before next) (sym (ap (take (length old.done + 1)) whole ∙ up_to old.done later text)) checks;
        good = λ refused. subst (All Good) (sym (ap (take (length old.done)) whole ∙ take-append_seam old.done (text ∷ later))) (old.good refused);
        named = subst (λ x. NamesText (Good x) checking.bad_questions x (counted before.seen.count (length old.done + 1)) error) (sym at) (subst (λ n. NamesText (Good text) checking.bad_questions text n error) count names);
      }

pub names_other : (A B : Type 0) (bad_questions : BadLines) (text : List ℕ) (n : ℕ) → (B → A) → (error : QuestionsError) → NamesText A bad_questions text n error → NamesText B bad_questions text n error
names_other A B bad_questions text n f (BadText bad) (refused, number, is, not_a) = (refused, number, is, λ b. not_a (f b))
names_other A B bad_questions text n f (Output error) names = tt

-- what was read is nothing, or an address that the list allows
abbrev pub IsAllowedRead : Precedence → Values → Result (Option Question) QuestionError → Type 0
IsAllowedRead precedence m (Ok None) = ⊤
IsAllowedRead precedence m (Ok (Some question)) = IsAllowed precedence m (ip_path question.network)
IsAllowedRead precedence m (Err error) = ⊥

-- a text asks about one address
one_asked : (text : List ℕ) (a b : IpPrefix) → IsAsked Addresses text a → IsAsked Addresses text b → a ≡ b
one_asked text a b (x, of_x, is) (y, of_y, also) = is ∙ ap ip_host (IsIpText_unique text x y of_x of_y) ∙ sym also

one_question : (checking : Checking) (text : List ℕ) (a b : IpPrefix) → IsQuestion (asking_of checking) text a → IsQuestion (asking_of checking) text b → a ≡ b
one_question checking text a b (x, of_x, is) (y, of_y, also) = is ∙ ap (as_mapped checking.mapped) (one_asked text x y of_x of_y) ∙ sym also

module _ (checking : Checking) (m : Values) where
  -- what is read from a line is allowed exactly if the line is
  pub allowed_line : (line : List ℕ) (read : Result (Option Question) QuestionError) → ReadsLine (asking_of checking) line read
      → IsAllowedRead checking.precedence m read ↔ IsAllowedLine checking m line
  allowed_line line (Ok None) blank = (λ _. inl blank, λ _. tt)
  allowed_line line (Ok (Some question)) is = (
    λ allowed. inr (question.text.now, question.network, is, allowed),
    λ line_is. elim line_is [
      | inl blank ↦ let e : [] ≡ question.text.now ∷ [] = sym blank.0 ∙ is.0.only in cc
      | inr (text, network, asks, allowed) ↦
          let fields : text ∷ [] ≡ question.text.now ∷ [] = sym asks.0.only ∙ is.0.only in
          let same : text ≡ question.text.now = cc in
          subst (λ n. IsAllowed checking.precedence m (ip_path n))
          (one_question checking question.text.now network question.network (subst (λ t. IsQuestion (asking_of checking) t network) same asks.0.is_question) is.0.is_question) allowed
    ],
  )
  allowed_line line (Err error) none = (
    λ allowed. absurd allowed,
    λ line_is. elim line_is [ inl blank ↦ none.0 blank | inr (text, network, asks, allowed) ↦ none.1 text network asks ],
  )

  pub allowed_word : (word : List ℕ) (network : IpPrefix) → IsQuestion (asking_of checking) word network
      → IsAllowed checking.precedence m (ip_path network) ↔ IsAllowedWord checking m word
  allowed_word word network is = (
    λ allowed. (network, is, allowed),
    λ (other, asks, allowed). subst (λ n. IsAllowed checking.precedence m (ip_path n)) (one_question checking word other network asks is) allowed,
  )

  pub no_allowed_word : (word : List ℕ) → ((network : IpPrefix) → ¬ (IsQuestion (asking_of checking) word network)) → ⊥ ↔ IsAllowedWord checking m word
  no_allowed_word word none = (λ never. absurd never, λ (network, asks, allowed). none network asks)

-- a line from which an error was read is not good
pub no_good_line : (checking : Checking) (line : List ℕ) (error : QuestionError) → ReadsLine (asking_of checking) line (Err error) → ¬ (IsGoodLine checking line)
no_good_line checking line error none (inl blank) = none.0 blank
no_good_line checking line error none (inr (text, network, asks)) = none.1 text network asks

-- the words that are left begin with the next one
pub words_split : (words : List (Bor (List ℕ))) (i : ℕ) (d : Bor (List ℕ)) → i < length words
    → drop i (map (λ word. word.now) words) ≡ (get_or words i d).now ∷ drop (i + 1) (map (λ word. word.now) words)
words_split [] i d less = absurd (omega arith)
words_split (word ∷ words) zero d less = refl
words_split (word ∷ words) (suc i) d less = let e : suc i + 1 ≡ suc (i + 1) = omega arith in rw e (words_split words i d (omega arith))

-- after the last word none is left
pub words_end : (words : List (Bor (List ℕ))) (i : ℕ) → length words ≤ i → drop i (map (λ word. word.now) words) ≡ []
words_end [] zero most = refl
words_end [] (suc i) most = refl
words_end (word ∷ words) zero most = absurd (omega arith)
words_end (word ∷ words) (suc i) most = words_end words i (omega arith)

-- what one text shows, from what is read from it
pub checked_one : (Allowed : List ℕ → Type 0) (Read : Type 0) (text : List ℕ) (before after : Checked) → Read ↔ Allowed text
    → (after.are_all_allowed ≡ true) ↔ ((before.are_all_allowed ≡ true) × Read) → after.seen.count ≡ counted before.seen.count 1 → HasChecked Allowed (text ∷ []) before after
checked_one Allowed Read text before after same all count = (
  (
    λ is. let w = all.0 is in (w.0, all_of_one Allowed text (same.0 w.1)),
    λ is. all.1 (is.0, same.1 (one_of_all Allowed text is.1)),
  ),
  count,
)

pub on_ok : {X E : Type 0} (r : Result X E) (P : Type 0) → P → OnOk r P
on_ok (Ok x) P holds = holds
on_ok (Err e) P holds = tt

-- what one text shows if it was an address
pub checked_answer : (Allowed : List ℕ → Type 0) (Here : Type 0) (text : List ℕ) (before mid after : Checked) → Here ↔ Allowed text → mid.are_all_allowed ≡ before.are_all_allowed
    → mid.seen.count ≡ counted before.seen.count 1 → (after.are_all_allowed ≡ true) ↔ ((mid.are_all_allowed ≡ true) × Here) → after.seen.count ≡ mid.seen.count
    → HasChecked Allowed (text ∷ []) before after
checked_answer Allowed Here text before mid after same kept count all counts =
    checked_one Allowed Here text before after same (λ is. let w = all.0 is in (sym kept ∙ w.0, w.1), λ is. all.1 (kept ∙ is.0, is.1)) (counts ∙ count)

-- if it was not one
pub checked_skip : (Allowed : List ℕ → Type 0) (text : List ℕ) (before after : Checked) → ⊥ ↔ Allowed text → after.are_all_allowed ≡ false
    → after.seen.count ≡ counted before.seen.count 1 → HasChecked Allowed (text ∷ []) before after
checked_skip Allowed text before after same none count =
    checked_one Allowed ⊥ text before after same (λ is. absurd (true≢false (sym is ∙ none)), λ is. absurd is.1) count

-- if it was blank
pub checked_blank : (Allowed : List ℕ → Type 0) (text : List ℕ) (before after : Checked) → Allowed text → after.are_all_allowed ≡ before.are_all_allowed
    → after.seen.count ≡ counted before.seen.count 1 → HasChecked Allowed (text ∷ []) before after
checked_blank Allowed text before after is kept count =
    checked_one Allowed ⊤ text before after (λ _. is, λ _. tt) (λ all. (sym kept ∙ all, tt), λ all. kept ∙ all.0) count
