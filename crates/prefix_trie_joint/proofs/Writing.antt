-- Writing walks over a joint map: all entries are to come at first, and the first one to come is stored at its network.
use Rattle.std.proofs.Common.{◌≡◌, Bool, true, false, cond, List, [], ◌∷◌, ◌++◌, filter, Option, Some, None, is_some, refl, sym, ap, ◌∙◌, is_le, is_lt, true≢false}
use Rattle.std.proofs.lemmas.List.Elements.{All-contains_itself, All-filter, All-head, All-weaker}
use Rattle.std.proofs.lemmas.Option.{none-some, same_Some}
use Rattle.std.specs.List.{All, Contains}
use Rattle.std.specs.Option.{option_map}
use Rattle.std.specs.FinMap.{contains_key, get}
use Rattle.prefix_trie.specs.Terms.{Entries, first_item, listing, listing_after, listing_cmp, listing_from}
use Rattle.prefix_trie_bits.specs.Networks.{network_back, network_path}
use Rattle.prefix_trie_bits.proofs.Model.Listings.{listing_laws}
use Rattle.prefix_trie_joint.specs.declared.prefix.IpPrefix.{IpPrefix}
use Rattle.prefix_trie_joint.specs.Joined.{joined, under}
use Rattle.prefix_trie_joint.specs.Networks.{ip_back, ip_path}
use Rattle.prefix_trie_joint.specs.Writing.{false_if_any, first_or}
use Rattle.prefix_trie_joint.proofs.Joined.{get_ipv4, get_ipv6, get_neither, listing_joined}
use Rattle.prefix_trie_joint.proofs.Walks.{from_ipv4_listing}

starts : (s : List Bool) → is_le (listing_cmp [] s) ≡ true
starts [] = refl
starts (b ∷ s) = refl

module _ {T : Type 0} where
  all_from_start : (es : List (List Bool × T)) → filter (λ e. is_le (listing_cmp [] e.0)) es ≡ es
  all_from_start [] = refl
  all_from_start (e ∷ es) = ap (λ x. cond x (e ∷ filter (λ e. is_le (listing_cmp [] e.0)) es) (filter (λ e. is_le (listing_cmp [] e.0)) es)) (starts e.0) ∙ ap (λ r. e ∷ r) (all_from_start es)

  -- everything is to come from the network 0.0.0.0/0 on
  pub from_start : (a b : Entries T) → listing_from (joined a b) (false ∷ []) ≡ listing (joined a b)
  from_start a b = from_ipv4_listing a b [] ∙ ap (λ xs. under false xs ++ under true (listing b)) (all_from_start (listing a)) ∙ sym (listing_joined a b)

  -- each key is the path of its network if that holds in each family
  pub keys_joined : (a b : Entries T) → ((s : List Bool) → contains_key a s ≡ true → network_path 32 (network_back 32 s) ≡ s) → ((s : List Bool) → contains_key b s ≡ true → network_path 128 (network_back 128 s) ≡ s)
      → (s : List Bool) → contains_key (joined a b) s ≡ true → ip_path (ip_back s) ≡ s
  keys_joined a b f g [] h = absurd (true≢false (sym h ∙ ap is_some (get_neither a b)))
  keys_joined a b f g (false ∷ s) h = ap (λ t. false ∷ t) (f s (sym (ap is_some (get_ipv4 a b s)) ∙ h))
  keys_joined a b f g (true ∷ s) h = ap (λ t. true ∷ t) (g s (sym (ap is_some (get_ipv6 a b s)) ∙ h))

module _ {T : Type 0} (m : Entries T) (keys : (s : List Bool) → contains_key m s ≡ true → ip_path (ip_back s) ≡ s) where
  abbrev IsThere : List Bool × T → Type 0
  IsThere e = get m (ip_path (ip_back e.0)) ≡ Some e.1

  all_there : All IsThere (listing m)
  all_there =
      All-weaker (λ e. Contains (listing m) e) IsThere
      (λ e has. let is = ((listing_laws T).has_each m e.0 e.1).1 has in ap (get m) (keys e.0 (ap is_some is)) ∙ is)
      (listing m) (All-contains_itself (listing m))

  first_there : (es : List (List Bool × T)) → All IsThere es → option_map (λ p. get m (ip_path p)) (option_map {T = List Bool × T} (λ e. ip_back e.0) (first_item es)) ≡ option_map {T = List Bool × T} (λ e. Some e.1) (first_item es)
  first_there [] h = refl
  first_there (e ∷ es) h = ap Some (All-head IsThere e es h)

  -- the value at the network of the first entry to come
  pub first_stored : (inclusive : Bool) (q : List Bool) (r : Option IpPrefix) → r ≡ option_map {T = List Bool × T} (λ e. ip_back e.0) (first_item (cond inclusive (listing_from m q) (listing_after m q)))
      → option_map (λ p. get m (ip_path p)) r ≡ option_map {T = List Bool × T} (λ e. Some e.1) (first_item (cond inclusive (listing_from m q) (listing_after m q)))
  first_stored true q r is = ap (option_map (λ p. get m (ip_path p))) is ∙ first_there (listing_from m q) (All-filter (λ e. is_le (listing_cmp q e.0)) IsThere (listing m) all_there)
  first_stored false q r is = ap (option_map (λ p. get m (ip_path p))) is ∙ first_there (listing_after m q) (All-filter (λ e. is_lt (listing_cmp q e.0)) IsThere (listing m) all_there)

module _ {T : Type 0} where
  -- where the walk is after a step
  pub first_is : (es : List (List Bool × T)) (p q : IpPrefix) → Some p ≡ option_map {T = List Bool × T} (λ e. ip_back e.0) (first_item es) → p ≡ first_or es q
  first_is [] p q is = absurd (none-some p (sym is))
  first_is (e ∷ es) p q is = same_Some p (ip_back e.0) is

  pub any_is : (es : List (List Bool × T)) (p : IpPrefix) (b : Bool) → Some p ≡ option_map {T = List Bool × T} (λ e. ip_back e.0) (first_item es) → false ≡ false_if_any es b
  any_is [] p b is = absurd (none-some p (sym is))
  any_is (e ∷ es) p b is = refl

  pub none_first : (es : List (List Bool × T)) (q : IpPrefix) → None ≡ option_map {T = List Bool × T} (λ e. ip_back e.0) (first_item es) → q ≡ first_or es q
  none_first [] q is = refl
  none_first (e ∷ es) q is = absurd (none-some (ip_back e.0) is)

  pub none_any : (es : List (List Bool × T)) (b : Bool) → None ≡ option_map {T = List Bool × T} (λ e. ip_back e.0) (first_item es) → b ≡ false_if_any es b
  none_any [] b is = refl
  none_any (e ∷ es) b is = absurd (none-some (ip_back e.0) is)

  -- the value of the first entry to come
  pub first_value : (o : Option (List Bool × T)) (p : IpPrefix) (m : Entries T) → option_map {U = Option T} (λ q. get m (ip_path q)) (Some p) ≡ option_map {T = List Bool × T} (λ e. Some e.1) o → get m (ip_path p) ≡ option_map {T = List Bool × T} (λ e. e.1) o
  first_value None p m is = absurd (none-some (get m (ip_path p)) (sym is))
  first_value (Some e) p m is = same_Some (get m (ip_path p)) (Some e.1) is

  pub no_value : (o : Option (List Bool × T)) → None ≡ option_map {T = List Bool × T} (λ e. Some e.1) o → None ≡ option_map {T = List Bool × T} (λ e. e.1) o
  no_value None is = refl
  no_value (Some e) is = absurd (none-some (Some e.1) is)
