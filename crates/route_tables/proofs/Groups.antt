-- Questions that are looked up together: how they are read, looked up and answered: for `read_group`, `answer_together` and `answer_all`.
use Rattle.std.proofs.Common.{◌≡◌, ◌∙◌, ℕ, zero, suc, ◌+◌, ◌<◌, ◌≤◌, false, Bool, List, [], ◌∷◌, ◌++◌, Option, ap, append-nil, append_assoc, arith, get_or, inl, inr, is_ok, length, map, refl, set, subst, sym, take, true, true≢false, OnOk, Result, Ok, Err}
use Rattle.std.proofs.lemmas.List.{get_or-take, get_or_default, length-take-le, take_more_set}
use Rattle.std.specs.Borrow.{Bor}
use Rattle.std.specs.Io.KnownBytes.{Appends}
use Rattle.std.specs.Option.{option_copied, option_map}
use Rattle.prefix_trie.specs.Terms.{longest_match, network_path}
use Rattle.prefix_trie_joint.specs.Joined.{joined}
use Rattle.prefix_trie_joint.specs.declared.prefix.IpPrefix.{IpPrefix}
use Rattle.prefix_trie_joint.specs.declared.prefix.IpPrefix.TheVariants.{V4, V6}
use Rattle.prefix_trie_joint.proofs.Matches.{longest_value}
use Rattle.route_tables.specs.Groups.{AreIpv4Of, AreMatchValues, BeginsWithQuestions, IsIpv4Of, IsMatchValue, answers_text, questions_of}
use Rattle.route_tables.specs.Lines.{lines}
use Rattle.route_tables.specs.Questions.{GivesQuestion, IsQuestionLine}
use Rattle.route_tables.specs.Tables.{Values}
use Rattle.route_tables.specs.declared.questions.Asking.{Asking}
use Rattle.route_tables.proofs.Answering.{has_append}
use Rattle.route_tables.proofs.Printing.{lines_end, lines_more}

-- the question at an index
question_at : (texts : List (Bor (List ℕ))) (networks : List IpPrefix) (i : ℕ) (text : Bor (List ℕ)) (network : IpPrefix) → length texts ≡ length networks → get_or texts i text ≡ text
    → get_or networks i network ≡ network → get_or (questions_of texts networks) i (text.now, network) ≡ (text.now, network)
question_at [] networks i text network same is_text is_network = refl
question_at (t ∷ texts) [] i text network same is_text is_network = refl
question_at (t ∷ texts) (n ∷ networks) zero text network same is_text is_network = cc
question_at (t ∷ texts) (n ∷ networks) (suc i) text network same is_text is_network = question_at texts networks i text network (omega arith) is_text is_network

-- there are as many as networks
question_count : (texts : List (Bor (List ℕ))) (networks : List IpPrefix) → length texts ≡ length networks → length (questions_of texts networks) ≡ length networks
question_count [] [] same = refl
question_count [] (n ∷ networks) same = absurd (omega arith)
question_count (t ∷ texts) [] same = refl
question_count (t ∷ texts) (n ∷ networks) same = ap suc (question_count texts networks (omega arith))

question_last : (texts : List (Bor (List ℕ))) (networks : List IpPrefix) (text : Bor (List ℕ)) (network : IpPrefix) → length texts ≡ length networks
    → questions_of (texts ++ text ∷ []) (networks ++ network ∷ []) ≡ questions_of texts networks ++ (text.now, network) ∷ []
question_last [] [] text network same = refl
question_last [] (n ∷ networks) text network same = absurd (omega arith)
question_last (t ∷ texts) [] text network same = absurd (omega arith)
question_last (t ∷ texts) (n ∷ networks) text network same = ap (λ later. (t.now, n) ∷ later) (question_last texts networks text network (omega arith))

-- one more question is written after those before
question_set : (texts : List (Bor (List ℕ))) (networks : List IpPrefix) (count : ℕ) (text : Bor (List ℕ)) (network : IpPrefix) → count < length texts → count < length networks
    → questions_of (take (count + 1) (set texts count text)) (take (count + 1) (set networks count network)) ≡ questions_of (take count texts) (take count networks) ++ (text.now, network) ∷ []
question_set texts networks count text network at_text at_network =
    let front : length (take count texts) ≡ count = length-take-le count texts (omega arith) in
    let ahead : length (take count networks) ≡ count = length-take-le count networks (omega arith) in
    rw (take_more_set texts count text at_text, take_more_set networks count network at_network) (question_last (take count texts) (take count networks) text network (front ∙ sym ahead))

module _ (asking : Asking) (text : List ℕ) where
  begins_more : (rest later line : List ℕ) (questions given : List (List ℕ × IpPrefix)) → lines rest ≡ line ∷ lines later → GivesQuestion (IsQuestionLine asking) line given
      → BeginsWithQuestions asking text rest questions → BeginsWithQuestions asking text later (questions ++ given)
  begins_more rest later line questions given split gives (first, splits, has) = (
    first ++ line ∷ [],
    splits ∙ ap (λ ls. first ++ ls) split ∙ sym (append_assoc first (line ∷ []) (lines later)),
    has_append (IsQuestionLine asking) first (line ∷ []) questions given has (given, [], gives, refl, sym (append-nil given)),
  )

  -- one more line, which has a question
  pub begins_question : (rest later line : List ℕ) (texts : List (Bor (List ℕ))) (networks : List IpPrefix) (count : ℕ) (asked : Bor (List ℕ)) (network : IpPrefix)
      → count < length texts → count < length networks → lines rest ≡ line ∷ lines later → IsQuestionLine asking line asked.now network
      → BeginsWithQuestions asking text rest (questions_of (take count texts) (take count networks))
      → BeginsWithQuestions asking text later (questions_of (take (count + 1) (set texts count asked)) (take (count + 1) (set networks count network)))
  begins_question rest later line texts networks count asked network at_text at_network split asks old =
      subst (BeginsWithQuestions asking text later) (sym (question_set texts networks count asked network at_text at_network))
      (begins_more rest later line (questions_of (take count texts) (take count networks)) ((asked.now, network) ∷ []) split (inr (asked.now, network, asks, refl)) old)

  -- one more line, which has none
  pub begins_nothing : (rest later line : List ℕ) (questions : List (List ℕ × IpPrefix)) → lines rest ≡ line ∷ lines later
      → ((asked : List ℕ) (network : IpPrefix) → ¬ (IsQuestionLine asking line asked network)) → BeginsWithQuestions asking text rest questions → BeginsWithQuestions asking text later questions
  begins_nothing rest later line questions split none old =
      subst (BeginsWithQuestions asking text later) (append-nil questions) (begins_more rest later line questions [] split (inl (refl, none)) old)

module _ (answer : List ℕ → IpPrefix → List ℕ) (texts : List (Bor (List ℕ))) (networks : List IpPrefix) (same : length texts ≡ length networks) where
  -- a loop over the places answered the first questions, and answers one more
  pub answers_more : (i : ℕ) (d : Bor (List ℕ)) (network : IpPrefix) → i < length networks → get_or networks i network ≡ network → (a b c : Option (List ℕ))
      → Appends a b (answers_text answer (take i (questions_of texts networks))) → Appends b c (answer (get_or texts i d).now network)
      → Appends a c (answers_text answer (take (i + 1) (questions_of texts networks)))
  answers_more i d network less at a b c old more =
      let text : Bor (List ℕ) = get_or texts i d in
      let is_text : get_or texts i text ≡ text = get_or_default texts i text d (omega arith) in
      let long : i < length (questions_of texts networks) = rw (question_count texts networks same) less in
      lines_more (λ question. answer question.0 question.1) (questions_of texts networks) i (text.now, network) long (question_at texts networks i text network same is_text at) a b c old more

  -- it answered all
  pub answers_all : (i : ℕ) → length networks ≤ i → (a b : Option (List ℕ)) → Appends a b (answers_text answer (take i (questions_of texts networks)))
      → Appends a b (answers_text answer (questions_of texts networks))
  answers_all i all a b old =
      let most : length (questions_of texts networks) ≤ i = rw (question_count texts networks same) all in
      lines_end (λ question. answer question.0 question.1) (questions_of texts networks) i most a b old

-- the networks up to an index are copied
abbrev pub AreCopied : List IpPrefix → List (ℕ × ℕ) → ℕ → Type 0
AreCopied networks asked i = (k : ℕ) → k < i → (network : IpPrefix) (p : ℕ × ℕ) → get_or networks k network ≡ network → get_or asked k p ≡ p → IsIpv4Of network p

-- at one index of two lists with the same images
same_at : {X Y Z : Type 0} (f : X → Z) (h : Y → Z) (xs : List X) (ys : List Y) (i : ℕ) (x : X) (y : Y) → map f xs ≡ map h ys → i < length xs → get_or xs i x ≡ x → get_or ys i y ≡ y → f x ≡ h y
same_at f h [] ys i x y same less at_x at_y = absurd (omega arith)
same_at f h (first ∷ xs) [] i x y same less at_x at_y = cc
same_at f h (first ∷ xs) (other ∷ ys) zero x y same less at_x at_y = cc
same_at f h (first ∷ xs) (other ∷ ys) (suc i) x y same less at_x at_y = same_at f h xs ys i x y (cc) (omega arith) at_x at_y

-- the value of the longest match of a network
abbrev pub match_value : Values → List Bool → Option (List ℕ)
match_value m q = option_map (λ found. found.1) (longest_match m q)

match_of : (a b : Values) (network : IpPrefix) (asked : ℕ × ℕ) (value : Option (Bor (List ℕ))) → IsIpv4Of network asked → option_copied value ≡ match_value a (network_path 32 asked)
    → IsMatchValue (joined a b) network value
match_of a b (V4 network) asked value is found = found ∙ ap (λ p. match_value a (network_path 32 p)) is ∙ sym (longest_value false a b (network_path 32 network))
match_of a b (V6 network) asked value is found = tt

-- a bulk lookup of the copied networks finds the values of IPv4 networks
pub matches_of : (a b : Values) (networks : List IpPrefix) (asked : List (ℕ × ℕ)) (values : List (Option (Bor (List ℕ)))) → length networks ≤ length asked → AreIpv4Of networks asked
    → map option_copied values ≡ map (λ p. match_value a (network_path 32 p)) (take (length networks) asked) → AreMatchValues (joined a b) networks values
matches_of a b networks asked values long copied found = λ i less network value at_n at_v.
    let p : ℕ × ℕ = get_or asked i (0, 0) in
    let n : ℕ = length networks in
    let at : get_or asked i p ≡ p = get_or_default asked i p (0, 0) (omega arith) in
    let taken : i < length (take n asked) = rw (length-take-le n asked long) less in
    match_of a b network p value (copied i less network p at_n at)
    (sym (same_at (λ q. match_value a (network_path 32 q)) option_copied (take n asked) values i p value (sym found) taken (get_or-take n asked i p less ∙ at) at_v))

-- what holds of a success that is said to be one
pub ok_said : {X E : Type 0} (made : Result X E) (P : Type 0) → true ≡ is_ok made → OnOk made P → P
ok_said (Ok x) P same holds = holds
ok_said (Err e) P same holds = absurd (true≢false same)
