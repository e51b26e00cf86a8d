-- Many lookups in one call: what a group of them reads and finds, and how one more result is added. For
-- `get_lpm_bulk`.
use Rattle.prefix_trie_map.proofs.Prelude.{◌≡◌, ℕ, ◌+◌, ◌-◌, ◌<◌, ◌≤◌, Bool, List, [], ◌∷◌, ◌++◌, Option, None, Some, Bor, refl, map, set, take, drop, length, get_or, sum_by, slice_range, sym, ap, ap₂, ◌∙◌, subst, arith, add-sub_of_le, length-drop, option_map, drop-take, get_or_append_left, get_or-drop, get_or-map, get_or-take, length-map, length-take-le, map-append, take_more, take_more_set, take-take, sum_by-take-drop, sum_by_push, Entries, longest_match, Nodes, visits, Node, Found, AreMatchesFound, HaveMatches, AreFound, ReadsMore, visits_of_all, take_all}
use Rattle.prefix_trie_map.proofs.Lookups.{Finds, by_key_bits}

-- reading the nodes for a group adds its visits to the count
pub reads_more : {P : Type 0} (path : P → List Bool) (nodes : Nodes) (prefixes : List P) (from to before after : ℕ) → from ≤ to
    → after ≡ before + sum_by (λ p. visits nodes (path p)) (slice_range prefixes from to) → ReadsMore path nodes prefixes from to before after
reads_more path nodes prefixes from to before after up read =
    let parts = sum_by-take-drop (λ p. visits nodes (path p)) (take to prefixes) from in
    let front : visits_of_all path nodes (take from (take to prefixes)) ≡ visits_of_all path nodes (take from prefixes) = ap (visits_of_all path nodes) (take-take from to prefixes up) in
    let back : visits_of_all path nodes (drop from (take to prefixes)) ≡ visits_of_all path nodes (slice_range prefixes from to)
    = ap (λ n. visits_of_all path nodes (drop from (take n prefixes))) (sym (add-sub_of_le up)) ∙ ap (visits_of_all path nodes) (drop-take from (to - from) prefixes) in
    omega (arith, parts, front, back, read)

-- one more lookup adds its visits to the count
pub reads_one : {P : Type 0} (path : P → List Bool) (nodes : Nodes) (prefixes : List P) (n : ℕ) → n < length prefixes → (p : P) → p ≡ get_or prefixes n p → (asked : List Bool) → asked ≡ path p
    → (start before after : ℕ) → before ≡ start + visits_of_all path nodes (take n prefixes) → after ≡ before + visits nodes asked
    → after ≡ start + visits_of_all path nodes (take (n + 1) prefixes)
reads_one path nodes prefixes n inside p is asked same start before after so_far read =
    let here : visits nodes asked ≡ visits nodes (path (get_or prefixes n p)) = ap (visits nodes) (same ∙ ap path is) in
    let more : visits_of_all path nodes (take (n + 1) prefixes) ≡ visits_of_all path nodes (take n prefixes) + visits nodes (path (get_or prefixes n p))
    = ap (visits_of_all path nodes) (take_more prefixes n p inside) ∙ sum_by_push (λ x. visits nodes (path x)) (take n prefixes) (get_or prefixes n p) in
    omega (arith, so_far, read, here, more)

-- the results of a group, followed by the results of the later groups
pub found_more : {P : Type 0} (path : P → List Bool) (nodes : List Node) (prefixes : List P) (from n : ℕ) (found rest : List (Option Found))
    → from + n ≤ length prefixes → length found ≡ n → AreMatchesFound nodes (map path (slice_range prefixes from (from + n))) found
    → AreFound path nodes prefixes from n (found ++ rest)
found_more path nodes prefixes from n found rest space long results i p a inside p_is a_is =
    let many : from + n - from ≡ n = omega arith in
    let group : slice_range prefixes from (from + n) ≡ take n (drop from prefixes) = ap (λ k. take k (drop from prefixes)) many in
    let fits : i < length (take n (drop from prefixes)) = omega (arith, inside, length-take-le n (drop from prefixes) (omega (arith, length-drop from prefixes, space))) in
    let read : get_or (take n (drop from prefixes)) i p ≡ p = get_or-take n (drop from prefixes) i p inside ∙ get_or-drop from prefixes i p ∙ sym p_is in
    let q = path p in
    subst (λ l. AreMatchesFound nodes (map path l) found) group results i q a (omega (arith, fits, length-map (take n (drop from prefixes)) path))
    (sym (get_or-map path (take n (drop from prefixes)) i p q fits ∙ ap path read)) (a_is ∙ get_or_append_left found rest a i (omega (arith, inside, long)))

-- one more result is right
pub matched_more : {P X Y : Type 0} (shows : X → Y) (answer : P → Y) (prefixes : List P) (out : List X) (n m : ℕ) → HaveMatches shows answer prefixes out n → m ≡ n + 1
    → n < length out → n < length prefixes → (p : P) → p ≡ get_or prefixes n p → (x : X) → shows x ≡ answer p → HaveMatches shows answer prefixes (set out n x) m
matched_more shows answer prefixes out n m so_far more space inside p is x shown =
    subst (HaveMatches shows answer prefixes (set out n x)) (sym more)
    (ap (map shows) (take_more_set out n x space) ∙ map-append shows (take n out) (x ∷ [])
    ∙ ap₂ (λ l y. l ++ y ∷ []) so_far (shown ∙ ap answer is)
    ∙ sym (ap (map answer) (take_more prefixes n p inside) ∙ map-append answer (take n prefixes) (get_or prefixes n p ∷ [])))

-- what the table finds for a prefix is the right result for it
pub right_match : {T Y : Type 0} (entries : Entries T) (right : Option (List Bool × T) → Y) (bits asked path : List Bool) → take (length asked) bits ≡ asked → asked ≡ path → (found : Option (ℕ × Bor T))
    → Finds asked (longest_match entries asked) found → (shown : Y) → shown ≡ right (option_map (λ f. (take f.0 bits, f.1.now)) found)
    → shown ≡ right (longest_match entries path)
right_match entries right bits asked path begin key found finds shown is =
    is ∙ ap right (by_key_bits bits asked begin (longest_match entries asked) found finds) ∙ ap (λ s. right (longest_match entries s)) key

-- the values of the matches, taken with their keys or without
pub values_found : {X Y V : Type 0} (key : X → Y) (found : Option (X × Bor V)) → option_map (λ (e : Y × V). e.1) (option_map (λ (f : X × Bor V). (key f.0, f.1.now)) found) ≡ option_map (λ (f : X × Bor V). f.1.now) found
values_found key None = refl
values_found key (Some f) = refl

-- in the end all results are right
pub matched_all : {P X Y : Type 0} (shows : X → Y) (answer : P → Y) (prefixes : List P) (out : List X) (n : ℕ) → HaveMatches shows answer prefixes out n → length prefixes ≤ n → length out ≤ n
    → map shows out ≡ map answer prefixes
matched_all shows answer prefixes out n so_far all space = sym (ap (map shows) (take_all n out space)) ∙ so_far ∙ ap (map answer) (take_all n prefixes all)

-- in the end the nodes of all prefixes were read
pub read_all : {P : Type 0} (path : P → List Bool) (nodes : Nodes) (prefixes : List P) (n start now : ℕ) → now ≡ start + visits_of_all path nodes (take n prefixes) → length prefixes ≤ n
    → now ≡ start + visits_of_all path nodes prefixes
read_all path nodes prefixes n start now read all = read ∙ ap (λ ps. start + visits_of_all path nodes ps) (take_all n prefixes all)
