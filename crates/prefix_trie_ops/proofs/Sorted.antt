-- Small facts on lists of entries in listing order.
use Rattle.std.proofs.Common.{◌≡◌, ◌∙◌, ◌&&◌, Bool, true, false, true≢false, cond, List, [], ◌∷◌, Some, None, Less, Equal, Greater, Ordering, ap, sym, subst, refl, T}
use Rattle.std.specs.Ordering.{is_eq, is_lt, ordering_reverse}
use Rattle.std.specs.FinMap.Entries.{below_all, find}
use Rattle.prefix_trie_bits.specs.Model.Order.{listing_cmp, same_string}
use Rattle.prefix_trie_bits.specs.Order.{listing_same, listing_total}

pub t_both : (a b : Bool) → T a → T b → T (a && b)
t_both true b h k = k
t_both false b h k = h

pub t_first : (a b : Bool) → T (a && b) → T a
t_first true b h = tt
t_first false b h = h

pub t_second : (a b : Bool) → T (a && b) → T b
t_second true b h = h
t_second false b h = absurd h

less_is : (o : Ordering) → T (is_lt o) → o ≡ Less
less_is Less h = refl
less_is o h = absurd h

equal_is : (o : Ordering) → is_eq o ≡ true → o ≡ Equal
equal_is Equal h = refl
equal_is o h = absurd (true≢false (sym h))

-- strings that compare as equal are equal
pub same_is : (s t : List Bool) → same_string s t ≡ true → s ≡ t
same_is s t h = listing_same s t (equal_is (listing_cmp s t) h)

pub turned : (s t : List Bool) → listing_cmp s t ≡ Greater → listing_cmp t s ≡ Less
turned s t h = listing_total.antisymm t s ∙ ap ordering_reverse h

module _ {X : Type 0} where
  -- a string that is before all keys of a list is not found in it
  pub find_before : (q : List Bool) (es : List (List Bool × X)) → T (below_all listing_cmp q es) → find listing_cmp q es ≡ None
  find_before q [] h = refl
  find_before q (e ∷ es) h =
      let less = less_is (listing_cmp q e.0) (t_first (is_lt (listing_cmp q e.0)) (below_all listing_cmp q es) h) in
      ap (λ o. cond (is_eq o) (Some e.1) (find listing_cmp q es)) less ∙ find_before q es (t_second (is_lt (listing_cmp q e.0)) (below_all listing_cmp q es) h)

  -- a string before s is before all strings that s is before
  pub before_all : (q s : List Bool) (es : List (List Bool × X)) → listing_cmp q s ≡ Less → T (below_all listing_cmp s es) → T (below_all listing_cmp q es)
  before_all q s [] l h = tt
  before_all q s (e ∷ es) l h =
      let less = less_is (listing_cmp s e.0) (t_first (is_lt (listing_cmp s e.0)) (below_all listing_cmp s es) h) in
      t_both (is_lt (listing_cmp q e.0)) (below_all listing_cmp q es) (subst (λ o. T (is_lt o)) (sym (listing_total.trans q s e.0 l less)) tt)
      (before_all q s es l (t_second (is_lt (listing_cmp s e.0)) (below_all listing_cmp s es) h))

  pub less_before : (q : List Bool) (e : List Bool × X) (es : List (List Bool × X)) → listing_cmp q e.0 ≡ Less → T (below_all listing_cmp e.0 es) → T (below_all listing_cmp q (e ∷ es))
  less_before q e es l h = t_both (is_lt (listing_cmp q e.0)) (below_all listing_cmp q es) (subst (λ o. T (is_lt o)) (sym l) tt) (before_all q e.0 es l h)
