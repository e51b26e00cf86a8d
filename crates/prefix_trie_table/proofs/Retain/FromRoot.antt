-- The calls from the root on are the calls on the whole listing: for `retain`.
use Rattle.prefix_trie_table.proofs.Prelude.{◌≡◌, ℕ, Bool, List, [], length, Option, Some, refl, sym, ap, ◌∙◌, subst, arith, places, CallableOnEachEntry, listing_at_places, listing, State, listing_of_root, Node, node_at, Store, at_root, IsPlaceOf, IsSite, RetainsTo, RetainsAll, IsTrie}
use Rattle.std.specs.List.{Contains}
use Rattle.prefix_trie_table.proofs.Retain.TestCallsBelow.{asked_all, nodes_tidy}
use Rattle.prefix_trie_table.proofs.Retain.CurrentPlaces.{nothing_at, none_below_it}
use Rattle.prefix_trie_table.proofs.Tree.Subtrees.{all_places}
use Rattle.prefix_trie_table.proofs.Tree.Trees.{read-nil}

module _ {K : Type 0} (IsKey : K → Type 0) (bits : K → List Bool) (width : ℕ) (v : Store Node) (key : K) (is_key : IsKey key) (n : Node) (n_is : n ≡ node_at v.slots 0) where
  -- the root is in the first slot
  pub root_site : IsSite IsKey bits width v (record { slot = 0; key = key; depth = 0 }) n
  root_site = record { key = is_key; level = 0; depth_is = refl; within = omega arith; is_there = read-nil v.slots ∙ ap Some (sym n_is); slot_is = at_root }

  module _ {T : Type 0} (long : length (bits key) ≡ width) (count : ℕ) (w : Store (Option T)) (s : State T) (trie : IsTrie width count v w s) (ts : List (List Bool)) (all : ts ≡ places n.value_bitmap n.child_bitmap) where
    root_listing : listing_at_places s.entries [] ts ≡ listing s.entries
    root_listing =
        ap (listing_at_places s.entries []) all
        ∙ all_places width v (record { count = count; cells = w; shape = s }) trie [] n refl (read-nil v.slots ∙ ap Some (sym n_is))
        ∙ listing_of_root s.entries

    module _ {F : Type 0} (may_return : F → List Bool → T → Bool → F → Type 0) (accepts : F → List Bool → T → Type 0) (f : F) where
      pub root_may_ask : CallableOnEachEntry may_return accepts f (listing s.entries) → CallableOnEachEntry may_return accepts f (listing_at_places s.entries [] ts)
      root_may_ask may = subst (CallableOnEachEntry may_return accepts f) (sym root_listing) may

      pub root_asked : (each : (u : List Bool) → Contains ts u → IsPlaceOf n u) → (every : (u : List Bool) → IsPlaceOf n u → Contains ts u) → (g : F) (count2 : ℕ) (v2 : Store Node)
          (w2 : Store (Option T)) → RetainsTo may_return accepts width [] ts f s g count2 v2 w2 → RetainsAll may_return accepts width f s g count2 v2 w2
      root_asked each every g count2 v2 w2 to =
          let unset = nothing_at IsKey bits width v (record { slot = 0; key = key; depth = 0 }) n root_site long count w s trie in
          let bare = none_below_it IsKey bits width v (record { slot = 0; key = key; depth = 0 }) n root_site long count w s trie in
          record {
            after = to.after;
            trie = to.trie;
            asked = asked_all may_return accepts [] n.value_bitmap n.child_bitmap ts all each (λ u h k. every u (h, k)) f g s to.after to.retains unset bare refl trie.nodes.depths refl;
            tidy = nodes_tidy may_return accepts [] n.value_bitmap n.child_bitmap ts all each (λ u h k. every u (h, k)) f g s to.after to.retains unset bare refl trie.nodes.depths refl width to.trie.nodes;
          }
