-- Loading a text into a table: the values that its lines replace, and the slots that their routes make: for `load_into`.
use Rattle.std.proofs.Common.{◌≡◌, ◌<◌, ◌≤◌, ℕ, zero, suc, ◌+◌, ◌-◌, ◌*◌, ◌^◌, List, [], ◌∷◌, ◌++◌, length, length-append, take, get_or, refl, sym, ap, ap₂, subst, ◌∙◌, append_assoc, append-nil, arith, Result, Ok, Err, OnOk}
use Rattle.std.proofs.Math.Seq.{take-append_seam}
use Rattle.prefix_trie.specs.Terms.{with_entry}
use Rattle.prefix_trie_joint.proofs.CollectedItems.{new_after}
use Rattle.prefix_trie_joint.specs.Changes.{AreNew, maps_of}
use Rattle.prefix_trie_joint.specs.Collected.{AreAfter}
use Rattle.prefix_trie_joint.specs.Joined.{entries_of}
use Rattle.prefix_trie_joint.specs.Networks.{ip_path}
use Rattle.prefix_trie_joint.specs.declared.map.JointPrefixMap.{JointPrefixMap}
use Rattle.prefix_trie_joint.specs.declared.prefix.IpPrefix.{IpPrefix}
use Rattle.route_tables.specs.Loads.{AddsLine, AddsSlots, ListsLine, MayExceed, with_routes}
use Rattle.route_tables.specs.Replaced.{ReplacesValues, replaced_by, replaced_one}
use Rattle.route_tables.specs.Routes.{Gives, HasRoutes, Route, routes_to}
use Rattle.route_tables.specs.Tables.{Values}
use Rattle.route_tables.specs.declared.load.BadLine.{BadLine}
use Rattle.route_tables.specs.declared.load.Reading.{Reading}
use Rattle.route_tables.specs.declared.load.Replaced.{Replaced}
use Rattle.route_tables.proofs.Loads.{Loads, has_routes, loads_on, loads_start}

-- the list of replaced values after one network more
replaced_more : (line : ℕ) (value : List ℕ) (networks : List IpPrefix) (i : ℕ) (d : IpPrefix) (m : Values) → i < length networks
    → replaced_by line (take (i + 1) (routes_to value networks)) m
    ≡ replaced_by line (take i (routes_to value networks)) m ++ replaced_one line (get_or networks i d, value) (with_routes (take i (routes_to value networks)) m)
replaced_more line value [] i d m less = absurd (omega arith)
replaced_more line value (network ∷ networks) zero d m less = append-nil (replaced_one line (network, value) m)
replaced_more line value (network ∷ networks) (suc i) d m less =
    let e : suc i + 1 ≡ suc (i + 1) = omega arith in
    let here = replaced_one line (network, value) m in
    let next = with_entry m (ip_path network) value in
    rw e (ap (λ xs. here ++ xs) (replaced_more line value networks i d next (omega arith))
    ∙ sym (append_assoc here (replaced_by line (take i (routes_to value networks)) next) (replaced_one line (get_or networks i d, value) (with_routes (take i (routes_to value networks)) next))))

pub one_replaced : (line : ℕ) (value : List ℕ) (networks : List IpPrefix) (i : ℕ) (network : IpPrefix) (before m : Values) (first now after : List Replaced) → i < length networks
    → network ≡ get_or networks i network → m ≡ with_routes (take i (routes_to value networks)) before
    → now ≡ first ++ replaced_by line (take i (routes_to value networks)) before → after ≡ now ++ replaced_one line (network, value) m
    → after ≡ first ++ replaced_by line (take (i + 1) (routes_to value networks)) before
one_replaced line value networks i network before m first now after less is old had lists =
    let routes = take i (routes_to value networks) in
    lists ∙ ap₂ (λ xs x. xs ++ replaced_one line (network, value) x) had old
    ∙ ap (λ p. (first ++ replaced_by line routes before) ++ replaced_one line (p, value) (with_routes routes before)) is
    ∙ append_assoc first (replaced_by line routes before) (replaced_one line (get_or networks i network, value) (with_routes routes before))
    ∙ ap (λ xs. first ++ xs) (sym (replaced_more line value networks i network before less))

-- what follows from a fact of a result
pub on_ok : {X E : Type 0} (r : Result X E) (P Q : Type 0) → (P → Q) → OnOk r P → OnOk r Q
on_ok (Ok x) P Q f p = f p
on_ok (Err e) P Q f p = tt

-- insertions in two parts
module _ {A : Type 0} (before now after : JointPrefixMap (List ℕ) A) where
  pub more_slots : (n k all : ℕ) → all ≡ n + k → AddsSlots n (maps_of before) (maps_of now) → AddsSlots k (maps_of now) (maps_of after) → AddsSlots all (maps_of before) (maps_of after)
  more_slots n k all sum first later count was =
      let e : count + n + k ≡ count + all = omega (arith, sum) in subst (λ n. AreAfter n (maps_of after)) e (later (count + n) (first count was))

  pub more_exceed : (n k all : ℕ) → n + k ≤ all → AddsSlots n (maps_of before) (maps_of now) → MayExceed k (maps_of now) → MayExceed all (maps_of before)
  more_exceed n k all within first exceed count was =
      let pass : 2 ^ 32 - 1 < 1 + 56 * (count + n + k) = exceed (count + n) (first count was) in omega (arith, pass, within)

pub no_slots : {A : Type 0} (table : JointPrefixMap (List ℕ) A) → AddsSlots 0 (maps_of table) (maps_of table)
no_slots table count was = let e : count + 0 ≡ count = omega arith in subst (λ n. AreAfter n (maps_of table)) (sym e) was

-- a line without routes
pub adds_nothing : {A : Type 0} (reading : Reading) (number : ℕ) (line : List ℕ) (table : JointPrefixMap (List ℕ) A) (listed : List Replaced) → Gives reading line []
    → AddsLine reading number line table table listed listed
adds_nothing reading number line table listed gives = record { routes = []; gives = gives; entries = refl; replaced = sym (append-nil listed); slots = no_slots table }

-- a new table
pub new_exceed : {A : Type 0} (table : JointPrefixMap (List ℕ) A) (n : ℕ) → AreNew (2 ^ 32 - 1) (2 ^ 32 - 1) (maps_of table) → MayExceed n (maps_of table) → 2 ^ 32 - 1 < 1 + 56 * n
new_exceed table n new exceed =
    let pass : 2 ^ 32 - 1 < 1 + 56 * (0 + n) = exceed 0 (new_after (maps_of table).0 new.0, new_after (maps_of table).1 new.1) in omega (arith, pass)

-- the values that one line more replaces
replaces_on : (reading : Reading) (n : ℕ) (done : List (List ℕ)) (line : List ℕ) (m now next : Values) (listed : List Replaced) (routes : List Route) → Gives reading line routes
    → next ≡ with_routes routes now → ReplacesValues reading n done m now listed
    → ReplacesValues reading n (done ++ line ∷ []) m next (listed ++ replaced_by (n + length done + 1) routes now)
replaces_on reading n [] line m now next listed routes gives adds (same, none) =
    let e : n + 0 + 1 ≡ n + 1 = omega arith in (
      routes,
      [],
      gives,
      (adds ∙ ap (with_routes routes) same, refl),
      ap (λ xs. xs ++ replaced_by (n + 0 + 1) routes now) none ∙ ap₂ (λ k x. replaced_by k routes x) e same ∙ sym (append-nil (replaced_by (n + 1) routes m)),
    )
replaces_on reading n (first ∷ done) line m now next listed routes gives adds (given, rest, g, later, is) =
    let e : n + suc (length done) + 1 ≡ n + 1 + length done + 1 = omega arith in
    let last = replaced_by (n + 1 + length done + 1) routes now in (
      given,
      rest ++ last,
      g,
      replaces_on reading (n + 1) done line (with_routes given m) now next rest routes gives adds later,
      ap₂ (λ xs k. xs ++ replaced_by k routes now) is e ∙ append_assoc (replaced_by (n + 1) given m) rest last,
    )

-- the invariant: the lines before are loaded, the values that they replace are listed, and their routes made so many slots
pub record LoadsTable {A : Type 0} (reading : Reading) (all rest : List (List ℕ)) (number : ℕ) (before now : JointPrefixMap (List ℕ) A) (listed : List BadLine) (replaced : List Replaced) : Type 0 where
  pub loads : Loads reading all rest number (entries_of before) (entries_of now) listed
  pub values : ReplacesValues reading 0 loads.done (entries_of before) (entries_of now) replaced
  pub slots : AddsSlots (length loads.routes) (maps_of before) (maps_of now)

-- the invariant holds before the first line
pub table_start : {A : Type 0} (reading : Reading) (all : List (List ℕ)) (table : JointPrefixMap (List ℕ) A) (listed : List BadLine) (replaced : List Replaced) → listed ≡ [] → replaced ≡ []
    → LoadsTable reading all all 0 table table listed replaced
unfolding loads_start
table_start reading all table listed replaced none none_replaced =
    record { loads = loads_start reading all (entries_of table) listed none; values = (refl, none_replaced); slots = no_slots table }

-- the invariant holds after one more line
pub table_on : {A : Type 0} (reading : Reading) (all rest later : List (List ℕ)) (line : List ℕ) (number : ℕ) (before now next : JointPrefixMap (List ℕ) A) (listed after : List BadLine)
    (replaced then_replaced : List Replaced) → rest ≡ line ∷ later → AddsLine reading (number + 1) line now next replaced then_replaced → ListsLine reading (number + 1) line listed after
    → LoadsTable reading all rest number before now listed replaced → LoadsTable reading all later (number + 1) before next after then_replaced
unfolding loads_on
table_on reading all rest later line number before now next listed after replaced then_replaced split adds lists old =
    let done = old.loads.done in
    let e : number + 1 ≡ 0 + length done + 1 = omega (arith, old.loads.count) in
    let is : then_replaced ≡ replaced ++ replaced_by (0 + length done + 1) adds.routes (entries_of now) = adds.replaced ∙ ap (λ k. replaced ++ replaced_by k adds.routes (entries_of now)) e in
    record {
      loads =
          loads_on reading all rest later line number (entries_of before) (entries_of now) (entries_of next) listed after split (adds.routes, adds.gives, adds.entries) lists old.loads;
      values =
          subst (ReplacesValues reading 0 (done ++ line ∷ []) (entries_of before) (entries_of next)) (sym is)
          (replaces_on reading 0 done line (entries_of before) (entries_of now) (entries_of next) replaced adds.routes adds.gives adds.entries old.values);
      slots = more_slots before now next (length old.loads.routes) (length adds.routes) (length (old.loads.routes ++ adds.routes)) (length-append old.loads.routes adds.routes) old.slots adds.slots;
    }

-- a line whose routes may exceed the limit
pub table_full : {A : Type 0} (reading : Reading) (all rest later : List (List ℕ)) (line : List ℕ) (number : ℕ) (before now : JointPrefixMap (List ℕ) A) (listed : List BadLine)
    (replaced : List Replaced) → rest ≡ line ∷ later → (routes : List Route) × Gives reading line routes × MayExceed (length routes) (maps_of now)
    → LoadsTable reading all rest number before now listed replaced
    → (index : ℕ) × (routes : List Route) × HasRoutes reading (take index all) routes × MayExceed (length routes) (maps_of before)
table_full reading all rest later line number before now listed replaced split (given, gives, exceed) old =
    let done = old.loads.done in
    let routes = old.loads.routes in
    let until = done ++ line ∷ [] in
    let whole : all ≡ until ++ later = old.loads.split ∙ ap (λ r. done ++ r) split ∙ sym (append_assoc done (line ∷ []) later) in
    let has : HasRoutes reading until (routes ++ given) = has_routes reading done line routes given old.loads.has gives in
    let sum : length routes + length given ≤ length (routes ++ given) = omega (arith, length-append routes given) in (
      length until,
      routes ++ given,
      subst (λ xs. HasRoutes reading xs (routes ++ given)) (sym (ap (take (length until)) whole ∙ take-append_seam until later)) has,
      more_exceed before now now (length routes) (length given) (length (routes ++ given)) sum old.slots exceed,
    )

-- after the last line
module _ {A : Type 0} (reading : Reading) (all rest : List (List ℕ)) (number : ℕ) (before now : JointPrefixMap (List ℕ) A) (listed : List BadLine) (replaced : List Replaced) (none : rest ≡ []) (old : LoadsTable reading all rest number before now listed replaced) where
  whole : all ≡ old.loads.done
  whole = old.loads.split ∙ ap (λ r. old.loads.done ++ r) none ∙ append-nil old.loads.done

  -- all values that are replaced are listed
  pub table_values : ReplacesValues reading 0 all (entries_of before) (entries_of now) replaced
  table_values = subst (λ xs. ReplacesValues reading 0 xs (entries_of before) (entries_of now) replaced) (sym whole) old.values

  -- the routes of all lines made so many slots
  pub table_slots : (routes : List Route) × HasRoutes reading all routes × AddsSlots (length routes) (maps_of before) (maps_of now)
  table_slots = (old.loads.routes, subst (λ xs. HasRoutes reading xs old.loads.routes) (sym whole) old.loads.has, old.slots)
