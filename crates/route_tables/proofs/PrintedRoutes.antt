-- The lines that print routes have these routes: for `printed_laws`.
use Rattle.std.proofs.Common.{◌≡◌, ◌∙◌, ℕ, zero, suc, ◌-◌, ◌<◌, Bool, true, false, true≢false, cond, ◌||◌, ◌&&◌, All, List, [], ◌∷◌, ◌++◌, not, length, map, take, drop, refl, sym, ap, ap₂, subst, inl, inr, arith, codes, append_assoc}
use Rattle.std.proofs.lemmas.Bool.{ne_eqb}
use Rattle.std.proofs.lemmas.List.Elements.{All-head, All-tail}
use Rattle.std.proofs.lemmas.List.Folds.{list_any-append}
use Rattle.std.specs.Char.{is_ascii_whitespace}
use Rattle.std.specs.List.{before_first, list_any, onto_first}
use Rattle.std.specs.Prelude.{◌==◌, bytes_eq}
use Rattle.prefix_trie_joint.proofs.Texts.{ip_text_laws}
use Rattle.prefix_trie_joint.specs.Networks.{lowest_ip}
use Rattle.prefix_trie_joint.specs.Texts.{ip_network_text, IpTextLaws, IsIp, IsIpNetworkText}
use Rattle.prefix_trie_joint.specs.declared.prefix.IpPrefix.{IpPrefix}
use Rattle.route_tables.specs.Lines.{after_mark, begins_comment, begins_word, fields, has_bare_return, lines, words}
use Rattle.route_tables.specs.Loads.{strict}
use Rattle.route_tables.specs.Networks.{has_slash, AreOfText, AreOfTextByHyphen, IsTextBySlash}
use Rattle.route_tables.specs.Printed.{route_line, routes_text}
use Rattle.route_tables.specs.PrintedLines.{IsTableRoute, PrintedLaws}
use Rattle.route_tables.specs.Routes.{AreFieldsOf, Gives, HasRoutes, IsFirstBad, IsLineValue, IsRoute, IsValue, IsValueText, Route}
use Rattle.route_tables.specs.declared.network.HostBits.TheVariants.{Refused}
use Rattle.route_tables.proofs.LineValues.{field_of_fields, fields_next, fields_of_field, first_none, rest_none, IsField, IsWord}
use Rattle.route_tables.proofs.NetworkTexts.{no_mark, of_network, text_has_no_hyphen, text_has_slash, text_is_no_comment, text_is_some, text_is_utf8, text_is_word, AreTextBytes}

-- a line without its end
abbrev line_of : IpPrefix → List ℕ → List ℕ
line_of network [] = ip_network_text network
line_of network (b ∷ bs) = ip_network_text network ++ codes " " ++ (b ∷ bs)

-- the fields after the network
abbrev own : List ℕ → List (List ℕ)
own [] = []
own (b ∷ bs) = (b ∷ bs) ∷ []

ended : (network : IpPrefix) (value : List ℕ) → route_line network value ≡ line_of network value ++ codes "\n"
ended network [] = refl
ended network (b ∷ bs) = refl

-- ---- words and lines

words_space : (n v : List ℕ) → IsWord n → words (n ++ 32 ∷ v) ≡ n ∷ words v
words_space [] v is = absurd is
words_space (b ∷ []) v is =
    ap (λ w. cond w (words (32 ∷ v)) (cond (begins_word (32 ∷ v)) (onto_first b (words (32 ∷ v))) ((b ∷ []) ∷ words (32 ∷ v)))) (first_none (is_ascii_whitespace b) (list_any is_ascii_whitespace []) is)
words_space (b ∷ c ∷ cs) v is =
    let t : List ℕ = c ∷ (cs ++ 32 ∷ v) in
    let rest : list_any is_ascii_whitespace (c ∷ cs) ≡ false = rest_none (is_ascii_whitespace b) (list_any is_ascii_whitespace (c ∷ cs)) is in
    ap (λ w. cond w (words t) (cond (begins_word t) (onto_first b (words t)) ((b ∷ []) ∷ words t))) (first_none (is_ascii_whitespace b) (list_any is_ascii_whitespace (c ∷ cs)) is)
    ∙ ap (λ w. cond (not w) (onto_first b (words t)) ((b ∷ []) ∷ words t)) (first_none (is_ascii_whitespace c) (list_any is_ascii_whitespace cs) rest)
    ∙ ap (onto_first b) (words_space (c ∷ cs) v rest)

lines_line : (l rest : List ℕ) → list_any (λ b. b == 10) l ≡ false → lines (l ++ 10 ∷ rest) ≡ l ∷ lines rest
lines_line [] rest none = refl
lines_line (b ∷ bs) rest none =
    ap (λ w. cond w ([] ∷ lines (bs ++ 10 ∷ rest)) (onto_first b (lines (bs ++ 10 ∷ rest)))) (first_none (b == 10) (list_any (λ b. b == 10) bs) none)
    ∙ ap (onto_first b) (lines_line bs rest (rest_none (b == 10) (list_any (λ b. b == 10) bs) none))

-- a kind of white space is in no word
not_in_word : (k : ℕ) → is_ascii_whitespace k ≡ true → (w : List ℕ) → list_any is_ascii_whitespace w ≡ false → list_any (λ b. b == k) w ≡ false
not_in_word k white [] none = refl
not_in_word k white (c ∷ cs) none =
    let plain = first_none (is_ascii_whitespace c) (list_any is_ascii_whitespace cs) none in
    ap (λ b. b || list_any (λ b. b == k) cs) (ne_eqb c k (λ e. true≢false (sym white ∙ ap is_ascii_whitespace (sym e) ∙ plain)))
    ∙ not_in_word k white cs (rest_none (is_ascii_whitespace c) (list_any is_ascii_whitespace cs) none)

any_taken : (p : ℕ → Bool) (k : ℕ) (xs : List ℕ) → list_any p xs ≡ false → list_any p (take k xs) ≡ false
any_taken p zero xs none = refl
any_taken p (suc k) [] none = refl
any_taken p (suc k) (x ∷ xs) none = ap (λ b. b || list_any p (take k xs)) (first_none (p x) (list_any p xs) none) ∙ any_taken p k xs (rest_none (p x) (list_any p xs) none)

plain_word : (w : List ℕ) → IsWord w → list_any is_ascii_whitespace w ≡ false
plain_word [] is = absurd is
plain_word (b ∷ bs) is = is

-- a text that begins as that of a network begins with no byte order mark
unmarked : (n rest : List ℕ) → 0 < length n → AreTextBytes n → after_mark (n ++ rest) ≡ n ++ rest
unmarked [] rest some all = absurd (omega (arith, some))
unmarked (c ∷ cs) rest some all = ap (λ b. cond (b && bytes_eq (take 2 (cs ++ rest)) (0xBB ∷ 0xBF ∷ [])) (drop 3 (c ∷ (cs ++ rest))) (c ∷ (cs ++ rest))) (no_mark c all.0)

module _ (laws : IpTextLaws) (network : IpPrefix) (value : List ℕ) (fits : IsIp network) (bare : network ≡ lowest_ip network) (of_line : IsLineValue value) where
  is_text : IsIpNetworkText (ip_network_text network) network
  is_text = laws.is_text network fits

  bytes : AreTextBytes (ip_network_text network)
  bytes = of_network (ip_network_text network) network is_text

  some : 0 < length (ip_network_text network)
  some = text_is_some (ip_network_text network) network is_text

  field : IsField (ip_network_text network)
  field = (text_is_word (ip_network_text network) some bytes, text_is_no_comment (ip_network_text network) bytes)

  own_field : (b : ℕ) (bs : List ℕ) → value ≡ b ∷ bs → fields (b ∷ bs) ≡ (b ∷ bs) ∷ []
  own_field b bs is = by of_line
    where
      by : IsLineValue value → fields (b ∷ bs) ≡ (b ∷ bs) ∷ []
      by (inl none) = absurd (let e : length value ≡ 0 = ap length none in let s : length value ≡ suc (length bs) = ap length is in omega (arith, e, s))
      by (inr (of_text, alone)) = subst (λ v. fields v ≡ v ∷ []) is alone

  -- ---- the fields of the line

  fields_by : (v : List ℕ) → value ≡ v → fields (line_of network v) ≡ ip_network_text network ∷ own v
  fields_by [] is = fields_of_field (ip_network_text network) field
  fields_by (b ∷ bs) is =
      ap fields (append_assoc (ip_network_text network) (codes " ") (b ∷ bs))
      ∙ ap (before_first begins_comment) (words_space (ip_network_text network) (b ∷ bs) field.0)
      ∙ fields_next (ip_network_text network) (words (b ∷ bs)) field.1 ∙ ap (λ f. ip_network_text network ∷ f) (own_field b bs is)

  pub line_fields : fields (line_of network value) ≡ ip_network_text network ∷ own value
  line_fields = fields_by value refl

  -- ---- what is not in the line

  lacks_by : (k : ℕ) → is_ascii_whitespace k ≡ true → (32 == k) ≡ false → (v : List ℕ) → value ≡ v → list_any (λ b. b == k) (line_of network v) ≡ false
  lacks_by k white other [] is = not_in_word k white (ip_network_text network) (plain_word (ip_network_text network) field.0)
  lacks_by k white other (b ∷ bs) is =
      list_any-append (λ b. b == k) (ip_network_text network ++ codes " ") (b ∷ bs)
      ∙ ap₂ (λ x y. x || y)
      (list_any-append (λ b. b == k) (ip_network_text network) (codes " ")
      ∙ ap₂ (λ x y. x || y) (not_in_word k white (ip_network_text network) (plain_word (ip_network_text network) field.0)) (ap (λ x. x || false) other))
      (not_in_word k white (b ∷ bs) (field_of_fields (b ∷ bs) (own_field b bs is)).0)

  pub line_is_one : list_any (λ b. b == 10) (line_of network value) ≡ false
  line_is_one = lacks_by 10 refl refl value refl

  pub no_return : has_bare_return (line_of network value) ≡ false
  no_return = any_taken (λ b. b == 13) (length (line_of network value) - 1) (line_of network value) (lacks_by 13 refl refl value refl)

  -- ---- the routes of the line

  by_slash : (b : Bool) → has_slash (ip_network_text network) ≡ b → b ≡ true → IsTextBySlash b Refused (ip_network_text network) network
  by_slash b is slashed = subst (λ s. IsTextBySlash s Refused (ip_network_text network) network) (sym slashed) (network, is_text, (refl, bare))

  denotes : AreOfText Refused (ip_network_text network) (network ∷ [])
  denotes =
      subst (λ h. AreOfTextByHyphen h Refused (ip_network_text network) (network ∷ [])) (sym (text_has_no_hyphen (ip_network_text network) bytes))
      (network, by_slash (has_slash (ip_network_text network)) refl (text_has_slash (ip_network_text network) network is_text), refl)

  is_value : (v : List ℕ) → value ≡ v → IsValue strict.kind (own v) v
  is_value [] is = (refl, tt)
  is_value (b ∷ bs) is = (refl, refl, by of_line)
    where
      by : IsLineValue value → IsValueText strict.kind (b ∷ bs)
      by (inl none) = absurd (let e : length value ≡ 0 = ap length none in let s : length value ≡ suc (length bs) = ap length is in omega (arith, e, s))
      by (inr (of_text, alone)) = subst (IsValueText strict.kind) is of_text

  pub line_route : IsRoute strict (line_of network value) (network ∷ []) value
  line_route = record {
    first = ip_network_text network;
    later = own value;
    has_fields = line_fields;
    are_fields = inl (record { utf8 = text_is_utf8 (ip_network_text network) bytes; denotes = denotes; is_value = is_value value refl });
    no_return = no_return;
  }

  -- ---- and no others

  only_network : (networks : List IpPrefix) → AreOfText Refused (ip_network_text network) networks → networks ≡ network ∷ []
  only_network networks are =
      let (found, by, is) = subst (λ h. AreOfTextByHyphen h Refused (ip_network_text network) networks) (text_has_no_hyphen (ip_network_text network) bytes) are in
      let (written, of_text, same) = subst (λ s. IsTextBySlash s Refused (ip_network_text network) found) (text_has_slash (ip_network_text network) network is_text) by in
      is ∙ ap (λ n. n ∷ []) (same.0 ∙ laws.at_most_one (ip_network_text network) written network of_text is_text)

  only_value : (v other : List ℕ) → IsValue strict.kind (own v) other → other ≡ v
  only_value [] other is = is.0
  only_value (b ∷ bs) other is = is.1

  one_field : (v hyphen last : List ℕ) (rest : List (List ℕ)) → own v ≡ hyphen ∷ last ∷ rest → ⊥
  one_field [] hyphen last rest is = (let e : 0 ≡ length (hyphen ∷ last ∷ rest) = ap length is in omega (arith, e))
  one_field (b ∷ bs) hyphen last rest is = (let e : 1 ≡ length (hyphen ∷ last ∷ rest) = ap length is in omega (arith, e))

  only_fields : (networks : List IpPrefix) (other : List ℕ) → AreFieldsOf strict (ip_network_text network) (own value) networks other → (networks ≡ network ∷ []) × (other ≡ value)
  only_fields networks other (inl are) = (only_network networks are.denotes, only_value value other are.is_value)
  only_fields networks other (inr (last, rest, split, are)) = absurd (one_field value (codes "-") last rest split)

  only_route : (networks : List IpPrefix) (other : List ℕ) → IsRoute strict (line_of network value) networks other → (networks ≡ network ∷ []) × (other ≡ value)
  only_route networks other route =
      let same : route.first ∷ route.later ≡ ip_network_text network ∷ own value = sym route.has_fields ∙ line_fields in
      let of_first : route.first ≡ ip_network_text network = cc in
      let of_later : route.later ≡ own value = cc in
      only_fields networks other (subst (λ l. AreFieldsOf strict (ip_network_text network) l networks other) of_later (subst (λ f. AreFieldsOf strict f route.later networks other) of_first route.are_fields))

  pub gives_route : (given : List Route) → Gives strict (line_of network value) given → given ≡ (network, value) ∷ []
  gives_route given (inl (none, inl blank)) = absurd (let e : [] ≡ ip_network_text network ∷ own value = sym blank.0 ∙ line_fields in let l : 0 ≡ suc (length (own value)) = ap length e in omega (arith, l))
  gives_route given (inl (none, inr skipped)) = absurd (skipped.1.is_none (network ∷ []) value line_route)
  gives_route given (inr (networks, other, route, is)) =
      let only = only_route networks other route in
      is ∙ ap₂ (λ ns v. map (λ n. (n, v)) ns) only.0 only.1

-- ---- all lines

starts : (network : IpPrefix) (value more : List ℕ) → (rest : List ℕ) × (route_line network value ++ more ≡ ip_network_text network ++ rest)
starts network [] more = (codes "\n" ++ more, append_assoc (ip_network_text network) (codes "\n") more)
starts network (b ∷ bs) more = (
  codes " " ++ ((b ∷ bs) ++ (codes "\n" ++ more)),
  append_assoc (ip_network_text network ++ codes " " ++ (b ∷ bs)) (codes "\n") more
      ∙ append_assoc (ip_network_text network ++ codes " ") (b ∷ bs) (codes "\n" ++ more)
      ∙ append_assoc (ip_network_text network) (codes " ") ((b ∷ bs) ++ (codes "\n" ++ more)),
)

module _ (laws : IpTextLaws) where
  lines_of : (route : Route) (routes : List Route) → IsTableRoute route → lines (routes_text (route ∷ routes)) ≡ line_of route.0 route.1 ∷ lines (routes_text routes)
  lines_of route routes is =
      ap lines (ap (λ l. l ++ routes_text routes) (ended route.0 route.1) ∙ append_assoc (line_of route.0 route.1) (codes "\n") (routes_text routes))
      ∙ lines_line (line_of route.0 route.1) (routes_text routes) (line_is_one laws route.0 route.1 is.fits is.bare is.value)

  no_mark_before : (routes : List Route) → All IsTableRoute routes → after_mark (routes_text routes) ≡ routes_text routes
  no_mark_before [] all = refl
  no_mark_before (route ∷ routes) all =
      let is = All-head IsTableRoute route routes all in
      let (rest, at) = starts route.0 route.1 (routes_text routes) in
      let of_text = laws.is_text route.0 is.fits in
      ap after_mark at ∙ unmarked (ip_network_text route.0) rest (text_is_some (ip_network_text route.0) route.0 of_text) (of_network (ip_network_text route.0) route.0 of_text) ∙ sym at

  read_lines : (routes read : List Route) → All IsTableRoute routes → HasRoutes strict (lines (routes_text routes)) read → read ≡ routes
  read_lines [] read all has = has
  read_lines (route ∷ routes) read all has =
      let is = All-head IsTableRoute route routes all in
      let (given, rest, gives, more, whole) = subst (λ ls. HasRoutes strict ls read) (lines_of route routes is) has in
      whole ∙ ap₂ (λ a b. a ++ b) (gives_route laws route.0 route.1 is.fits is.bare is.value given gives) (read_lines routes rest (All-tail IsTableRoute route routes all) more)

  good_lines : (routes : List Route) (index : ℕ) → All IsTableRoute routes → IsFirstBad strict (lines (routes_text routes)) index → ⊥
  good_lines [] index all bad = bad
  good_lines (route ∷ routes) zero all bad =
      let is = All-head IsTableRoute route routes all in
      let first = subst (λ ls. IsFirstBad strict ls 0) (lines_of route routes is) bad in
      first.is_none (route.0 ∷ []) route.1 (line_route laws route.0 route.1 is.fits is.bare is.value)
  good_lines (route ∷ routes) (suc index) all bad =
      let is = All-head IsTableRoute route routes all in
      let later = subst (λ ls. IsFirstBad strict ls (suc index)) (lines_of route routes is) bad in
      good_lines routes index (All-tail IsTableRoute route routes all) later.1

  of_texts : PrintedLaws
  of_texts = record {
    read_back = λ routes read all has. read_lines routes read all (subst (λ t. HasRoutes strict (lines t) read) (no_mark_before routes all) has);
    none_bad = λ routes index all bad. good_lines routes index all (subst (λ t. IsFirstBad strict (lines t) index) (no_mark_before routes all) bad);
  }

pub printed_laws : PrintedLaws
printed_laws = of_texts ip_text_laws
