-- The freed blocks of calls that remove entries: after a node is written, and of one call after
-- another.
use Rattle.prefix_trie_table.proofs.Prelude.{◌≡◌, ℕ, set, refl, sym, ◌∙◌, subst, arith, Store, GivesBack, Grows}
use Rattle.std.proofs.lemmas.List.{length-set}
use Rattle.prefix_trie_table.proofs.Blocks.Turnovers.{none_written, none_same}
use Rattle.prefix_trie_table.proofs.Insertion.Spaces.{none_then}

-- writing a node leaves the slots and the free blocks
pub gives_written : {S : Type 0} (v w x : Store S) (slot : ℕ) (m : S) → GivesBack v w → x ≡ record w { slots = set w.slots slot m } → GivesBack v x
gives_written v w x slot m back e = subst (λ y. GivesBack v y) (sym e) (record { none = none_written v w _ slot m back.none refl; sizes = back.sizes; free = back.free })

pub grows_written : {S : Type 0} (v w x : Store S) (slot : ℕ) (m : S) (most : ℕ) → Grows v w most → x ≡ record w { slots = set w.slots slot m } → Grows v x most
grows_written v w x slot m most grows e = subst (λ y. Grows v y most) (sym e) (record {
  first_is = grows.first_is;
  limit_is = grows.limit_is;
  longer = (let l = length-set w.slots slot m in let h = grows.longer in omega arith);
  at_most = (let l = length-set w.slots slot m in let h = grows.at_most in omega arith);
  within = λ h. (let l = length-set w.slots slot m in let k = grows.within h in omega (arith, l, k));
  made = grows.made;
})

-- what is given back, and then more
pub gives_same : {S : Type 0} (v : Store S) → GivesBack v v
gives_same v = record { none = none_same v; sizes = refl; free = λ j. omega arith }

pub gives_then : {S : Type 0} (v w x : Store S) → GivesBack v w → GivesBack w x → GivesBack v x
gives_then v w x a b = record { none = none_then v w x a.none b.none; sizes = b.sizes ∙ a.sizes; free = λ j. (let f = a.free j in let h = b.free j in omega arith) }
