-- Loading a text line by line: the invariant of the loop, how each line preserves it, and what the loop leaves: for
-- `load_into`.
use Rattle.std.proofs.Common.{◌≡◌, ◌<◌, ℕ, zero, suc, ◌+◌, List, [], ◌∷◌, ◌++◌, length, length-append, take, drop, get_or, refl, sym, ap, subst, ◌∙◌, inl, inr, ◌⊎◌, append_assoc, append-nil, arith, Result, Ok, Err, IfErr, OnErr, OnOk}
use Rattle.std.proofs.Math.Seq.{take-append_seam}
use Rattle.std.proofs.lemmas.List.{take-append-drop}
use Rattle.prefix_trie_joint.specs.Networks.{ip_path}
use Rattle.prefix_trie.specs.Terms.{with_entry}
use Rattle.prefix_trie_joint.specs.declared.prefix.IpPrefix.{IpPrefix}
use Rattle.route_tables.specs.Allocations.{LineMayAllocate}
use Rattle.route_tables.specs.Loads.{AddsFirst, EndsAt, EndsAtLine, GivesFirst, IfLineError, ListsLine, with_routes}
use Rattle.route_tables.specs.Reasons.{IsReason}
use Rattle.route_tables.specs.declared.line.LineError.{LineError}
use Rattle.route_tables.specs.declared.line.ReadError.TheVariants.{Line as ReadLine}
use Rattle.route_tables.specs.declared.load.BadLine.{BadLine}
use Rattle.route_tables.specs.declared.load.BadLines.TheVariants as bad_lines
use Rattle.route_tables.specs.declared.load.LoadError.{LoadError}
use Rattle.route_tables.specs.declared.load.LoadError.TheVariants.{Line, Refused}
use Rattle.route_tables.specs.declared.load.Reading.{Reading}
use Rattle.route_tables.specs.BadLines.{AreBadLines, IsBadLine}
use Rattle.route_tables.specs.Routes.{Gives, HasRoutes, IsBad, IsFirstBad, IsGood, Route, routes_to}
use Rattle.route_tables.specs.Tables.{Values}

-- the invariant: the routes of the lines before are added to the entries before, and the bad ones of these lines are listed
pub record Loads (reading : Reading) (all rest : List (List ℕ)) (number : ℕ) (before m : Values) (listed : List BadLine) : Type 0 where
  pub done : List (List ℕ)
  pub split : all ≡ done ++ rest
  pub count : number ≡ length done
  pub routes : List Route
  pub has : HasRoutes reading done routes
  pub entries : m ≡ with_routes routes before
  pub bad : AreBadLines reading 0 done listed

-- routes that are added in two parts
pub routes_in_parts : (first later : List Route) (m : Values) → with_routes (first ++ later) m ≡ with_routes later (with_routes first m)
routes_in_parts [] later m = refl
routes_in_parts (route ∷ first) later m = routes_in_parts first later (with_entry m (ip_path route.0) route.1)

-- one network more
pub add_one : (value : List ℕ) (networks : List IpPrefix) (i : ℕ) (d : IpPrefix) (m : Values) → i < length networks
    → with_routes (take (i + 1) (routes_to value networks)) m ≡ with_entry (with_routes (take i (routes_to value networks)) m) (ip_path (get_or networks i d)) value
add_one value [] i d m less = absurd (omega arith)
add_one value (network ∷ networks) zero d m less = refl
add_one value (network ∷ networks) (suc i) d m less =
    let e : suc i + 1 ≡ suc (i + 1) = omega arith in
    rw e (add_one value networks i d (with_entry m (ip_path network) value) (omega arith))

-- after one network more is added, or after trying to
pub one_added : (value : List ℕ) (networks : List IpPrefix) (i : ℕ) (network : IpPrefix) (before m after : Values) → i < length networks
    → network ≡ get_or networks i network → m ≡ with_routes (take i (routes_to value networks)) before → after ≡ with_entry m (ip_path network) value
    → after ≡ with_routes (take (i + 1) (routes_to value networks)) before
one_added value networks i network before m after less is old adds =
    adds ∙ ap (λ p. with_entry m (ip_path p) value) is ∙ ap (λ x. with_entry x (ip_path (get_or networks i network)) value) old
    ∙ sym (add_one value networks i network before less)

pub one_tried : (value : List ℕ) (networks : List IpPrefix) (i : ℕ) (network : IpPrefix) (before m after : Values) → i < length networks
    → network ≡ get_or networks i network → m ≡ with_routes (take i (routes_to value networks)) before
    → (after ≡ m) ⊎ (after ≡ with_entry m (ip_path network) value) → AddsFirst (routes_to value networks) before after
one_tried value networks i network before m after less is old (inl same) = (i, same ∙ old)
one_tried value networks i network before m after less is old (inr adds) = (i + 1, one_added value networks i network before m after less is old adds)

-- an error of which a fact is known
pub on_err : {X E : Type 0} (r : Result X E) (P : Type 0) → P → OnErr r P
on_err (Ok x) P holds = tt
on_err (Err e) P holds = holds

-- the first routes of a line
pub some_first : (reading : Reading) (line : List ℕ) (routes : List Route) (m after : Values) → Gives reading line routes → AddsFirst routes m after
    → (part : List Route) × GivesFirst reading line part × (after ≡ with_routes part m)
some_first reading line routes m after gives (n, is) =
    (take n routes, inr (drop n routes, subst (Gives reading line) (sym (take-append-drop n routes)) gives), is)

-- a bad line is listed if it is skipped, and named if it is refused
module _ (reading : Reading) (number : ℕ) (line : List ℕ) (bad : BadLine) (error : LineError) where
  is_bad_line : bad.number ≡ number → bad.text.now ≡ line → bad.error ≡ error → IsBad reading line → IsReason reading line (ReadLine error) → IsBadLine reading number line bad
  is_bad_line named quoted same is_bad reason = record { named = named; quoted = quoted; is_bad = is_bad; reason = subst (λ e. IsReason reading line (ReadLine e)) (sym same) reason }

  pub lists_bad : {X E : Type 0} (r : Result X E) (listed after : List BadLine) → OnOk r ((reading.bad_lines ≡ bad_lines.Skipped) × (after ≡ listed ++ bad ∷ []))
      → bad.number ≡ number → bad.text.now ≡ line → bad.error ≡ error → IsBad reading line → IsReason reading line (ReadLine error)
      → OnOk r (ListsLine reading number line listed after)
  lists_bad (Ok x) listed after (skipped, lists) named quoted same is_bad reason = inr (bad, is_bad_line named quoted same is_bad reason, lists)
  lists_bad (Err e) listed after ends named quoted same is_bad reason = tt

  pub refuses_bad : {X : Type 0} (r : Result X LoadError) → IfErr r (IfLineError (λ other. (other ≡ bad) × (reading.bad_lines ≡ bad_lines.Refused)))
      → bad.number ≡ number → bad.text.now ≡ line → bad.error ≡ error → IsBad reading line → IsReason reading line (ReadLine error)
      → IfErr r (IfLineError (λ other. (reading.bad_lines ≡ bad_lines.Refused) × IsBadLine reading number line other))
  refuses_bad (Ok x) none named quoted same is_bad reason = tt
  refuses_bad (Err (Line other)) (is, refused) named quoted same is_bad reason =
      (refused, subst (IsBadLine reading number line) (sym is) (is_bad_line named quoted same is_bad reason))
  refuses_bad (Err (Refused cause)) none named quoted same is_bad reason = tt

  pub ends_at_bad : {X : Type 0} (r : Result X LoadError) (m : Values) → IfErr r (IfLineError (λ other. (other ≡ bad) × (reading.bad_lines ≡ bad_lines.Refused)))
      → bad.number ≡ number → bad.text.now ≡ line → bad.error ≡ error → IsBad reading line → IsReason reading line (ReadLine error)
      → IfErr r (EndsAtLine reading number line m m)
  ends_at_bad (Ok x) m none named quoted same is_bad reason = tt
  ends_at_bad (Err (Line other)) m (is, refused) named quoted same is_bad reason =
      (refused, subst (IsBadLine reading number line) (sym is) (is_bad_line named quoted same is_bad reason), refl)
  ends_at_bad (Err (Refused cause)) m none named quoted same is_bad reason = ([], inl refl, refl)

-- one line more
pub has_routes : (reading : Reading) (done : List (List ℕ)) (line : List ℕ) (routes given : List Route) → HasRoutes reading done routes
    → Gives reading line given → HasRoutes reading (done ++ line ∷ []) (routes ++ given)
has_routes reading [] line routes given none gives = (given, [], gives, refl, ap (λ r. r ++ given) none ∙ sym (append-nil given))
has_routes reading (first ∷ done) line routes given (r, rest, g, has, is) gives =
    (r, rest ++ given, g, has_routes reading done line rest given has gives, ap (λ xs. xs ++ given) is ∙ append_assoc r rest given)

pub one_good : (reading : Reading) (n : ℕ) (done : List (List ℕ)) (line : List ℕ) (listed : List BadLine) → AreBadLines reading n done listed
    → IsGood reading line → AreBadLines reading n (done ++ line ∷ []) listed
one_good reading n [] line listed none good = inl (good, none)
one_good reading n (first ∷ done) line listed (inl (is, rest)) good = inl (is, one_good reading (n + 1) done line listed rest good)
one_good reading n (first ∷ done) line listed (inr (bad, others, is, rest, has)) good =
    inr (bad, others, is, one_good reading (n + 1) done line others rest good, has)

pub one_bad : (reading : Reading) (n : ℕ) (done : List (List ℕ)) (line : List ℕ) (listed : List BadLine) (bad : BadLine) → AreBadLines reading n done listed
    → IsBadLine reading (n + length done + 1) line bad → AreBadLines reading n (done ++ line ∷ []) (listed ++ bad ∷ [])
one_bad reading n [] line listed bad none is =
    let e : n + 0 + 1 ≡ n + 1 = omega arith in
    inr (bad, [], subst (λ k. IsBadLine reading k line bad) e is, refl, ap (λ xs. xs ++ bad ∷ []) none)
one_bad reading n (first ∷ done) line listed bad (inl (good, rest)) is =
    let e : n + suc (length done) + 1 ≡ n + 1 + length done + 1 = omega arith in
    inl (good, one_bad reading (n + 1) done line listed bad rest (subst (λ k. IsBadLine reading k line bad) e is))
one_bad reading n (first ∷ done) line listed bad (inr (other, others, first_is, rest, has)) is =
    let e : n + suc (length done) + 1 ≡ n + 1 + length done + 1 = omega arith in
    inr (other, others ++ bad ∷ [], first_is, one_bad reading (n + 1) done line others bad rest (subst (λ k. IsBadLine reading k line bad) e is), ap (λ xs. xs ++ bad ∷ []) has)

-- where bad lines are refused, a line that gives routes is good
is_good : (reading : Reading) (line : List ℕ) (routes : List Route) → reading.bad_lines ≡ bad_lines.Refused → Gives reading line routes → IsGood reading line
is_good reading line routes refused (inl (none, inl blank)) = inl blank
is_good reading line routes refused (inl (none, inr (skipped, bad))) = let e = sym refused ∙ skipped in cc
is_good reading line routes refused (inr (networks, value, is, gives)) = inr (networks, value, is)

is_first : (reading : Reading) (done later : List (List ℕ)) (line : List ℕ) (routes : List Route) → reading.bad_lines ≡ bad_lines.Refused
    → HasRoutes reading done routes → IsBad reading line → IsFirstBad reading (done ++ line ∷ later) (length done)
is_first reading [] later line routes refused has bad = bad
is_first reading (first ∷ done) later line routes refused (given, rest, gives, has, is) bad =
    (is_good reading first given refused gives, is_first reading done later line rest refused has bad)

-- the line after those before
at_done : (done later : List (List ℕ)) (line : List ℕ) → get_or (done ++ line ∷ later) (length done) [] ≡ line
at_done [] later line = refl
at_done (first ∷ done) later line = at_done done later line

-- the invariant holds before the first line
unfoldable pub loads_start : (reading : Reading) (all : List (List ℕ)) (m : Values) (listed : List BadLine) → listed ≡ [] → Loads reading all all 0 m m listed
loads_start reading all m listed none = record { done = []; split = refl; count = refl; routes = []; has = refl; entries = refl; bad = none }

-- the invariant holds after one more line
unfoldable pub loads_on : (reading : Reading) (all rest later : List (List ℕ)) (line : List ℕ) (number : ℕ) (before m next : Values) (listed after : List BadLine)
    → rest ≡ line ∷ later → (routes : List Route) × Gives reading line routes × (next ≡ with_routes routes m) → ListsLine reading (number + 1) line listed after
    → Loads reading all rest number before m listed → Loads reading all later (number + 1) before next after
loads_on reading all rest later line number before m next listed after split (given, gives, adds) lists old = record {
  done = old.done ++ line ∷ [];
  split = old.split ∙ ap (λ r. old.done ++ r) split ∙ sym (append_assoc old.done (line ∷ []) later);
  count = let e : number ≡ length old.done = old.count in omega (arith, length-append old.done (line ∷ []));
  routes = old.routes ++ given;
  has = has_routes reading old.done line old.routes given old.has gives;
  entries = adds ∙ ap (with_routes given) old.entries ∙ sym (routes_in_parts old.routes given before);
  bad = elim lists as (λ _. AreBadLines reading 0 (old.done ++ line ∷ []) after) [
    | inl (good, same) ↦ subst (AreBadLines reading 0 (old.done ++ line ∷ [])) (sym same) (one_good reading 0 old.done line listed old.bad good)
    | inr (bad, is, same) ↦
        let e : number + 1 ≡ 0 + length old.done + 1 = omega (arith, old.count) in
        subst (AreBadLines reading 0 (old.done ++ line ∷ [])) (sym same)
        (one_bad reading 0 old.done line listed bad old.bad (subst (λ k. IsBadLine reading k line bad) e is))
  ];
}

-- a line that ends the reading
pub loads_error : (reading : Reading) (all rest later : List (List ℕ)) (line : List ℕ) (number : ℕ) (before m after : Values) (listed : List BadLine) (error : LoadError)
    → rest ≡ line ∷ later → EndsAtLine reading (number + 1) line m after error
    → Loads reading all rest number before m listed → EndsAt reading all before after error
loads_error reading all rest later line number before m after listed (Line bad) split (refused, is, same) old =
    let whole : all ≡ old.done ++ line ∷ later = old.split ∙ ap (λ r. old.done ++ r) split in record {
      refused = refused;
      index = length old.done;
      named =
          subst (λ l. IsBadLine reading (length old.done + 1) l bad) (sym (ap (λ xs. get_or xs (length old.done) []) whole ∙ at_done old.done later line))
          (subst (λ n. IsBadLine reading (n + 1) line bad) old.count is);
      first = subst (λ xs. IsFirstBad reading xs (length old.done)) (sym whole) (is_first reading old.done later line old.routes refused old.has is.is_bad);
      routes = old.routes;
      before = subst (λ xs. HasRoutes reading xs old.routes) (sym (ap (take (length old.done)) whole ∙ take-append_seam old.done (line ∷ later))) old.has;
      entries = same ∙ old.entries;
    }
loads_error reading all rest later line number before m after listed (Refused cause) split (part, part_of, adds) old =
    let whole : all ≡ old.done ++ line ∷ later = old.split ∙ ap (λ r. old.done ++ r) split in record {
      index = length old.done;
      routes = old.routes;
      part = part;
      before = subst (λ xs. HasRoutes reading xs old.routes) (sym (ap (take (length old.done)) whole ∙ take-append_seam old.done (line ∷ later))) old.has;
      part_of = subst (λ l. GivesFirst reading l part) (sym (ap (λ xs. get_or xs (length old.done) []) whole ∙ at_done old.done later line)) part_of;
      entries = adds ∙ ap (with_routes part) old.entries;
    }

-- a line that may need an allocation
pub loads_memory : (reading : Reading) (all rest later : List (List ℕ)) (line : List ℕ) (number : ℕ) (before m : Values) (listed : List BadLine)
    → rest ≡ line ∷ later → LineMayAllocate reading line m → Loads reading all rest number before m listed
    → (index : ℕ) × (routes : List Route) × HasRoutes reading (take index all) routes × LineMayAllocate reading (get_or all index []) (with_routes routes before)
loads_memory reading all rest later line number before m listed split may old =
    let whole : all ≡ old.done ++ line ∷ later = old.split ∙ ap (λ r. old.done ++ r) split in (
      length old.done,
      old.routes,
      subst (λ xs. HasRoutes reading xs old.routes) (sym (ap (take (length old.done)) whole ∙ take-append_seam old.done (line ∷ later))) old.has,
      subst (λ l. LineMayAllocate reading l (with_routes old.routes before)) (sym (ap (λ xs. get_or xs (length old.done) []) whole ∙ at_done old.done later line))
          (subst (LineMayAllocate reading line) old.entries may),
    )

-- after the last line the routes of all lines are added, and all bad lines are listed
pub loads_routes : (reading : Reading) (all rest : List (List ℕ)) (number : ℕ) (before m : Values) (listed : List BadLine) → rest ≡ []
    → Loads reading all rest number before m listed → (routes : List Route) × HasRoutes reading all routes × (m ≡ with_routes routes before)
loads_routes reading all rest number before m listed none old =
    let whole : all ≡ old.done = old.split ∙ ap (λ r. old.done ++ r) none ∙ append-nil old.done in
    (old.routes, subst (λ xs. HasRoutes reading xs old.routes) (sym whole) old.has, old.entries)

pub loads_bad : (reading : Reading) (all rest : List (List ℕ)) (number : ℕ) (before m : Values) (listed : List BadLine) → rest ≡ []
    → Loads reading all rest number before m listed → AreBadLines reading 0 all listed
loads_bad reading all rest number before m listed none old =
    let whole : all ≡ old.done = old.split ∙ ap (λ r. old.done ++ r) none ∙ append-nil old.done in
    subst (λ xs. AreBadLines reading 0 xs listed) (sym whole) old.bad

-- if the lines have routes with bad lines refused, none is bad
pub none_bad : (reading : Reading) (n : ℕ) (lines : List (List ℕ)) (routes : List Route) (listed : List BadLine) → reading.bad_lines ≡ bad_lines.Refused
    → HasRoutes reading lines routes → AreBadLines reading n lines listed → listed ≡ []
none_bad reading n [] routes listed refused has none = none
none_bad reading n (line ∷ lines) routes listed refused (given, rest, gives, has, is) (inl (good, later)) = none_bad reading (n + 1) lines rest listed refused has later
none_bad reading n (line ∷ lines) routes listed refused (given, rest, gives, has, is) (inr (bad, others, of_line, later, lists)) =
    elim (is_good reading line given refused gives) as (λ _. listed ≡ []) [
      | inl blank ↦ absurd (of_line.is_bad.is_some blank)
      | inr (networks, value, route) ↦ absurd (of_line.is_bad.is_none networks value route)
    ]
