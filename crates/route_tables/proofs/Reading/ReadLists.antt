-- Reading lists line by line: what the lines so far add, how each line goes on, and what an error says. For `AddressList::add`.
use Rattle.std.proofs.Common.{◌≡◌, ◌<◌, ℕ, ◌+◌, false, Bool, All, Result, Ok, Err, OnOk, List, [], ◌∷◌, ◌++◌, length, take, get_or, refl, sym, ap, subst, ◌∙◌, append-nil}
use Rattle.std.proofs.lemmas.List.Elements.{All-cons, All-nil}
use Rattle.prefix_trie.specs.Terms.{no_entries, with_entry}
use Rattle.prefix_trie_joint.specs.Networks.{ip_path}
use Rattle.prefix_trie_joint.specs.declared.prefix.IpPrefix.{IpPrefix}
use Rattle.route_tables.specs.AddressLists.{AddsRoutes, Covers}
use Rattle.route_tables.specs.Loads.{IfLineError, ListsLine, NamesFirstBad, with_routes}
use Rattle.route_tables.specs.BadLines.{AreBadLines, IsBadLine}
use Rattle.route_tables.specs.Routes.{Gives, HasRoutes, Route, routes_to}
use Rattle.route_tables.specs.Tables.{Values}
use Rattle.route_tables.specs.declared.address_list.AddressList.{AddressList}
use Rattle.route_tables.specs.declared.load.BadLine.{BadLine}
use Rattle.route_tables.specs.declared.load.BadLines.TheVariants as bad_lines
use Rattle.route_tables.specs.declared.load.LoadError.{LoadError}
use Rattle.route_tables.specs.declared.load.LoadError.TheVariants.{Line, Refused}
use Rattle.route_tables.specs.declared.load.Reading.{Reading}
use Rattle.route_tables.proofs.Reading.AddressLists.{adds_both, adds_none}
use Rattle.route_tables.proofs.Loads.{Loads, add_one, loads_bad, loads_error, loads_on, loads_start}

-- the invariant: the lines so far have routes, which are added, and their bad ones are listed
pub record Reads (reading : Reading) (all rest : List (List ℕ)) (number : ℕ) (before list : AddressList) (listed : List BadLine) : Type 0 where
  pub values : Values
  pub loads : Loads reading all rest number no_entries values listed
  pub adds : AddsRoutes before loads.routes list

-- the invariant holds before the first line
pub reads_start : (reading : Reading) (all : List (List ℕ)) (list : AddressList) (listed : List BadLine) → listed ≡ [] → Reads reading all all 0 list list listed
unfolding loads_start
reads_start reading all list listed none = record { values = no_entries; loads = loads_start reading all no_entries listed none; adds = adds_none list }

-- the invariant holds after one more line
pub reads_on : (reading : Reading) (all rest later : List (List ℕ)) (line : List ℕ) (number : ℕ) (before list next : AddressList) (listed after : List BadLine)
    → rest ≡ line ∷ later → ((routes : List Route) × Gives reading line routes × AddsRoutes list routes next) → ListsLine reading (number + 1) line listed after
    → Reads reading all rest number before list listed → Reads reading all later (number + 1) before next after
unfolding loads_on
reads_on reading all rest later line number before list next listed after split (given, gives, adds) lists old = record {
  values = with_routes given old.values;
  loads = loads_on reading all rest later line number no_entries old.values (with_routes given old.values) listed after split (given, gives, refl) lists old.loads;
  adds = adds_both before list next old.loads.routes given old.adds adds;
}

-- a line that ends the reading is the first bad one
pub reads_error : (reading : Reading) (all rest later : List (List ℕ)) (line : List ℕ) (number : ℕ) (before list : AddressList) (listed : List BadLine) (error : LoadError)
    → rest ≡ line ∷ later → IfLineError (λ bad. (reading.bad_lines ≡ bad_lines.Refused) × IsBadLine reading (number + 1) line bad) error
    → Reads reading all rest number before list listed → NamesFirstBad reading all error
reads_error reading all rest later line number before list listed (Line bad) split (refused, is) old =
    let e = loads_error reading all rest later line number no_entries old.values old.values listed (Line bad) split (refused, is, refl) old.loads in
    (e.refused, (e.index, e.first, e.named))
reads_error reading all rest later line number before list listed (Refused cause) split is old = tt

-- after the last line the routes of all lines are added, and all bad lines are listed
pub reads_all : (reading : Reading) (all rest : List (List ℕ)) (number : ℕ) (before list : AddressList) (listed : List BadLine) → rest ≡ []
    → Reads reading all rest number before list listed → (routes : List Route) × HasRoutes reading all routes × AddsRoutes before routes list
reads_all reading all rest number before list listed none old =
    let whole : all ≡ old.loads.done = old.loads.split ∙ ap (λ r. old.loads.done ++ r) none ∙ append-nil old.loads.done in
    (old.loads.routes, subst (λ xs. HasRoutes reading xs old.loads.routes) (sym whole) old.loads.has, old.adds)

pub reads_bad : (reading : Reading) (all rest : List (List ℕ)) (number : ℕ) (before list : AddressList) (listed : List BadLine) → rest ≡ []
    → Reads reading all rest number before list listed → AreBadLines reading 0 all listed
reads_bad reading all rest number before list listed none old = loads_bad reading all rest number no_entries old.values listed none old.loads

-- one network more of those of a line
pub covers_one : (value : List ℕ) (networks : List IpPrefix) (i : ℕ) (network : IpPrefix) (m : Values) (list after : AddressList) → i < length networks
    → network ≡ get_or networks i network → Covers (with_routes (take i (routes_to value networks)) m) list
    → ((n : Values) (v : List ℕ) → Covers n list → Covers (with_entry n (ip_path network) v) after)
    → Covers (with_routes (take (i + 1) (routes_to value networks)) m) after
covers_one value networks i network m list after less is old adds =
    subst (λ n. Covers n after)
    (ap (λ p. with_entry (with_routes (take i (routes_to value networks)) m) (ip_path p) value) is ∙ sym (add_one value networks i network m less))
    (adds (with_routes (take i (routes_to value networks)) m) value old)

-- routes without a value
pub each_empty : (value : List ℕ) (networks : List IpPrefix) → value ≡ [] → All (λ route. route.1 ≡ []) (routes_to value networks)
each_empty value [] empty = All-nil (λ route. route.1 ≡ [])
each_empty value (network ∷ networks) empty = All-cons (λ route. route.1 ≡ []) (network, value) (routes_to value networks) empty (each_empty value networks empty)

-- a list that notes whether a value is empty gets the routes of a line
pub read_adds : (value : List ℕ) (networks : List IpPrefix) (before middle after : AddressList) → ((m : Values) → Covers m before → Covers m middle)
    → (middle.has_values ≡ false → (before.has_values ≡ false) × (value ≡ []))
    → ((m : Values) (v : List ℕ) → Covers m middle → Covers (with_routes (routes_to v networks) m) after) → after.has_values ≡ middle.has_values
    → AddsRoutes before (routes_to value networks) after
read_adds value networks before middle after keeps notes covers values = record {
  covers = λ m old. covers m value (keeps m old);
  no_values = λ none. let (b, e) = notes (sym values ∙ none) in (b, each_empty value networks e);
}

-- what follows from two facts of a result
pub on_both : {X E : Type 0} (r : Result X E) (P Q R : Type 0) → (P → Q → R) → OnOk r P → OnOk r Q → OnOk r R
on_both (Ok x) P Q R f p q = f p q
on_both (Err e) P Q R f p q = tt

-- a list whose builders are empty covers nothing
pub nothing : {X Y : Type 0} (has : List X × List Y → ℕ → Bool) (builder : List X × List Y) → builder ≡ ([], []) → ((n : ℕ) → has ([], []) n ≡ false) → (n : ℕ) → has builder n ≡ false
nothing has builder empty none n = ap (λ b. has b n) empty ∙ none n
