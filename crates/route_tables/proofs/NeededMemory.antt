-- When storing the networks of a line may need an allocation: for the refusals of `load_into`.
use Rattle.std.proofs.Common.{◌≡◌, ◌∙◌, ◌<◌, ℕ, zero, suc, Bool, true, false, true≢false, not, cond, List, [], ◌∷◌, length, take, get_or, Option, None, Some, bytes_eq, refl, sym, ap, inl, inr}
use Rattle.std.proofs.lemmas.Slice.Eq.{bytes_eq-Decides}
use Rattle.std.specs.FinMap.{get}
use Rattle.std.specs.Option.{is_some}
use Rattle.prefix_trie.specs.Terms.{network_path, with_entry}
use Rattle.prefix_trie_bits.proofs.Model.Members.{get-with_entry}
use Rattle.prefix_trie_bits.specs.Calls.Storage.{StepByPath}
use Rattle.prefix_trie_bits.specs.Model.Order.{same_string}
use Rattle.prefix_trie_bits.specs.Model.Step.{Insert, Refused}
use Rattle.prefix_trie_bits.specs.declared.prefix.Refusal.{Refusal}
use Rattle.prefix_trie_table.specs.Model.Contents.{Contents, stored_state}
use Rattle.prefix_trie_joint.proofs.Joined.{get_ipv4, get_ipv6}
use Rattle.prefix_trie_joint.specs.Changes.{StepOnFamily}
use Rattle.prefix_trie_joint.specs.Joined.{joined}
use Rattle.prefix_trie_joint.specs.Networks.{ip_path}
use Rattle.prefix_trie_joint.specs.declared.prefix.IpPrefix.{IpPrefix}
use Rattle.prefix_trie_joint.specs.declared.prefix.IpPrefix.TheVariants.{V4, V6}
use Rattle.route_tables.specs.Allocations.{MayAllocate, SomeMayAllocate}
use Rattle.route_tables.specs.Loads.{with_routes}
use Rattle.route_tables.specs.Replaced.{is_other}
use Rattle.route_tables.specs.Routes.{routes_to}
use Rattle.route_tables.specs.Tables.{Values}

-- another value is stored
pub other_value : (stored : Option (List ℕ)) (value : List ℕ) → is_other stored value ≡ true → ¬ (stored ≡ Some value)
other_value None value is same = true≢false (sym is)
other_value (Some v) value is same =
    let e : v ≡ value = cc in
    let equal : bytes_eq v value ≡ true = (bytes_eq-Decides v value).1 e in
    true≢false (sym is ∙ ap not equal)

-- an insertion into one map that is refused is that of a new key
module _ {T : Type 0} where
  refused_one : (width : ℕ) (q : List Bool) (v w : T) (cause : Refusal) (old new : Contents T)
      → StepByPath width (stored_state old) (Insert q v) (Refused cause) (stored_state new) → ¬ (get old.entries q ≡ Some w)
  refused_one width q v w cause old new step here =
      elim step.step as (λ _. ⊥) [
        | inl done ↦ let e = done.0 in cc
        | inr refused ↦ true≢false (sym (ap is_some here) ∙ refused.0)
      ]

  -- the same in the maps of both families
  pub refused_new : (p : IpPrefix) (v w : T) (cause : Refusal) (old new : Contents T × Contents T) → StepOnFamily p (λ q. Insert q v) (Refused cause) old new
      → ¬ (get (joined old.0.entries old.1.entries) (ip_path p) ≡ Some w)
  refused_new (V4 network) v w cause old new step here =
      refused_one 32 (network_path 32 network) v w cause old.0 new.0 step.0 (sym (get_ipv4 old.0.entries old.1.entries (network_path 32 network)) ∙ here)
  refused_new (V6 network) v w cause old new step here =
      refused_one 128 (network_path 128 network) v w cause old.1 new.1 step.0 (sym (get_ipv6 old.0.entries old.1.entries (network_path 128 network)) ∙ here)

-- networks that get a value keep those that have it already
still_has : (value : List ℕ) (networks : List IpPrefix) (i : ℕ) (m : Values) (s : List Bool) → get m s ≡ Some value → get (with_routes (take i (routes_to value networks)) m) s ≡ Some value
still_has value [] zero m s has = has
still_has value [] (suc i) m s has = has
still_has value (network ∷ networks) zero m s has = has
still_has value (network ∷ networks) (suc i) m s has =
    still_has value networks i (with_entry m (ip_path network) value) s
    (get-with_entry m (ip_path network) value s ∙ elim (same_string s (ip_path network)) as (λ b. cond b (Some value) (get m s) ≡ Some value) [ true ↦ refl | false ↦ has ])

-- the network at which the loop stops may need an allocation before the first one is stored
pub some_may : (value : List ℕ) (networks : List IpPrefix) (i : ℕ) (network : IpPrefix) (before m : Values) → i < length networks → network ≡ get_or networks i network
    → m ≡ with_routes (take i (routes_to value networks)) before → MayAllocate m network value → SomeMayAllocate before networks value
some_may value networks i network before m less is old (inl long) = (network, (i, less, sym is), inl long)
some_may value networks i network before m less is old (inr new) =
    (network, (i, less, sym is), inr (λ has. new (ap (λ x. get x (ip_path network)) old ∙ still_has value networks i before (ip_path network) has)))
