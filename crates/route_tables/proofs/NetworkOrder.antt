-- Networks that are in order by their addresses: they are in listing order too.
use Rattle.std.proofs.Common.{◌≡◌, ◌∙◌, ◌-◌, ◌≤◌, ℕ, suc, Bool, List, [], ◌∷◌, ◌++◌, length, Less, sym, ap, arith}
use Rattle.std.specs.Cmp.{nat_cmp_is}
use Rattle.std.specs.List.{Contains}
use Rattle.std.specs.Ordering.{nat_cmp, ordering_then}
use Rattle.prefix_trie.specs.Terms.{listing_cmp, zeros}
use Rattle.prefix_trie_bits.specs.Comparing.{order-filled, order-numbers}
use Rattle.prefix_trie_bits.specs.Windows.{length-filled}
use Rattle.address_ranges.specs.Networks.{first_address, past_address, AreInOrder}
use Rattle.address_ranges.proofs.Blocks.{some_address}
use Rattle.address_ranges.proofs.Keys.{get_or-any}

module _ (w : ℕ) where
  -- a network that ends before another one begins is listed before it
  pub before_listed : (s t : List Bool) → length s ≤ w → length t ≤ w → past_address w s ≤ first_address w t → listing_cmp s t ≡ Less
  before_listed s t fits fits' before =
      let some = some_address w s in
      order-filled w s t fits fits'
      ∙ ap (λ o. ordering_then o (nat_cmp (length s) (length t)))
      (order-numbers (s ++ zeros (w - length s)) (t ++ zeros (w - length t)) (length-filled w s fits ∙ sym (length-filled w t fits'))
      ∙ sym (nat_cmp_is (first_address w s) (first_address w t) Less (omega (arith, some, before))))

  pub in_order_tail : (s : List Bool) (ss : List (List Bool)) → AreInOrder w (s ∷ ss) → AreInOrder w ss
  in_order_tail s ss order j k lt inside = order (suc j) (suc k) (omega (arith, lt)) (omega (arith, inside))

  -- those after the first one begin after it ends
  pub after_first : (s : List Bool) (ss : List (List Bool)) → AreInOrder w (s ∷ ss) → (t : List Bool) → Contains ss t → past_address w s ≤ first_address w t
  after_first s ss order t (k, inside, is) =
      let o = order 0 (suc k) (omega arith) (omega (arith, inside)) in
      let e = ap (first_address w) (get_or-any ss k [] t inside ∙ is) in
      omega (arith, o, e)
