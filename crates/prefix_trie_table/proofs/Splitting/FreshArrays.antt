-- New arrays in which lists are built, one after another.
use Rattle.prefix_trie_table.proofs.Prelude.{◌≡◌, ℕ, ◌+◌, ◌≤◌, List, [], ◌++◌, length, refl, ap, ◌∙◌, subst, arith, BlockRef, BuildsList, CanBuild, Builds, Store, UsedBlock, Sound, held, size_in, tier_sizes}
use Rattle.prefix_trie_table.proofs.Blocks.BySize.{size_at}
use Rattle.prefix_trie_table.proofs.Blocks.Turnovers.{Keeps-same, Keeps-then}

module _ {S : Type 0} (vacant : S) where
  pub Builds-none : (v : Store S) (k : ℕ) → Builds vacant [] k v v
  Builds-none v k = record { sound = λ live s. s; longer = omega arith; keeps = Keeps-same v v refl; none_free = λ n. n }

  -- what was built first and then, in blocks that may be listed in another order
  pub Builds-then : (v w x : Store S) (bs cs ds : List (UsedBlock S)) (k l m : ℕ) → Builds vacant bs k v w → Builds vacant cs l w x →
      ((live : List (UsedBlock S)) → Sound vacant (cs ++ (bs ++ live)) x → Sound vacant (ds ++ live) x) → k + l ≤ m → Builds vacant ds m v x
  Builds-then v w x bs cs ds k l m a b same less = record {
    sound = λ live s. same live (b.sound (bs ++ live) (a.sound live s));
    longer = let f = a.longer in let g = b.longer in omega (arith, f, g, less);
    keeps = Keeps-then v w x a.keeps b.keeps;
    none_free = λ n. b.none_free (a.none_free n);
  }

  -- one list
  pub Builds-list : (v w : Store S) (sizes : List ℕ) (items : List S) (at : BlockRef) (k : ℕ) → tier_sizes v.tiers ≡ sizes → BuildsList vacant v w items at →
      length w.slots ≤ length v.slots + k → Builds vacant (held at.tier at.start (size_in sizes at.tier) items) k v w
  Builds-list v w sizes items at k are l longer = record {
    sound = λ live s. subst (λ size. Sound vacant (held at.tier at.start size items ++ live) w)
        (size_at v.tiers at.tier ∙ ap (λ ns. size_in ns at.tier) are) (l.sound live s);
    longer = longer;
    keeps = l.keeps;
    none_free = l.none_free;
  }

  -- others can be built in what is left
  pub can_build_then : (v w : Store S) (sizes : List ℕ) (bs : List (UsedBlock S)) (a b k : ℕ) → CanBuild vacant sizes k v → Builds vacant bs a v w → a + b ≤ k →
      CanBuild vacant sizes b w
  can_build_then v w sizes bs a b k can built less = record {
    live = bs ++ can.live;
    sound = built.sound can.live can.sound;
    sizes_are = built.keeps.sizes ∙ can.sizes_are;
    space = let s = can.space in let l = built.longer in let same = built.keeps.limit_is in omega (arith, s, l, same, less);
  }
