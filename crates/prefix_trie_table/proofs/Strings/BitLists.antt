-- The list of items at the set bits of a bitmap, when one bit is set or cleared: for the blocks of nodes and values.
use Rattle.prefix_trie_table.proofs.Prelude.{◌≡◌, ◌≢◌, ℕ, zero, suc, ◌+◌, ◌-◌, ◌<◌, ◌≤◌, ⊎_elim, Bool, true, false, cond, List, [], ◌∷◌, ◌++◌, length, get_or, set, map, insert, remove, refl, sym, ap, ◌∙◌, subst, arith, append_assoc, length-append, map-append, length-map, get_or_at, set_at, cases_eq, insert-append_right, remove-append_right, length-insert, has_bit, if_set, bits_below, bits, rank}
use Rattle.std.proofs.lemmas.List.{append-nil}
use Rattle.prefix_trie_table.proofs.Strings.Bits.{has_bit-zero, if_set-length}

-- the set bits among the k bits from b on
abbrev bits_from : ℕ → ℕ → ℕ → List ℕ
bits_from bitmap b zero = []
bits_from bitmap b (suc k) = bits_from bitmap b k ++ if_set (has_bit bitmap (b + k)) (b + k)

bits_cut : (bitmap b k : ℕ) → bits_below bitmap (b + k) ≡ bits_below bitmap b ++ bits_from bitmap b k
bits_cut bitmap b zero = (let e : b + 0 ≡ b = omega arith in ap (λ n. bits_below bitmap n) e) ∙ sym (append-nil (bits_below bitmap b))
bits_cut bitmap b (suc k) =
    let e : b + suc k ≡ suc (b + k) = omega arith in
    ap (λ n. bits_below bitmap n) e ∙ ap (λ xs. xs ++ if_set (has_bit bitmap (b + k)) (b + k)) (bits_cut bitmap b k)
    ∙ append_assoc (bits_below bitmap b) (bits_from bitmap b k) (if_set (has_bit bitmap (b + k)) (b + k))

-- the set bits are those below b, b itself if it is set, and those above b
bits_round : (bitmap b : ℕ) → b < 32 → bits bitmap ≡ bits_below bitmap b ++ (if_set (has_bit bitmap b) b ++ bits_from bitmap (suc b) (31 - b))
unfolding bits
bits_round bitmap b h =
    let e : 32 ≡ suc b + (31 - b) = omega arith in
    ap (λ n. bits_below bitmap n) e ∙ bits_cut bitmap (suc b) (31 - b)
    ∙ append_assoc (bits_below bitmap b) (if_set (has_bit bitmap b) b) (bits_from bitmap (suc b) (31 - b))

module _ {Y : Type 0} where
  insert_at : (xs ys : List Y) (y : Y) (n : ℕ) → n ≡ length xs → insert (xs ++ ys) n y ≡ xs ++ y ∷ ys
  insert_at xs ys y n e =
      let z : n - length xs ≡ 0 = omega arith in
      insert-append_right xs ys (length xs) n y refl (omega arith) ∙ ap (λ k. xs ++ insert ys k y) z

  remove_at : (xs ys : List Y) (y : Y) (n : ℕ) → n ≡ length xs → remove (xs ++ y ∷ ys) n ≡ xs ++ ys
  remove_at xs ys y n e =
      let z : n - length xs ≡ 0 = omega arith in
      remove-append_right xs (y ∷ ys) (length xs) n refl (omega arith) ∙ ap (λ k. xs ++ remove (y ∷ ys) k) z

  map_if : (f g : ℕ → Y) (s : Bool) (i : ℕ) → g i ≡ f i → map g (if_set s i) ≡ map f (if_set s i)
  map_if f g true i e = ap (λ y. y ∷ []) e
  map_if f g false i e = refl

  map_below : (f g : ℕ → Y) (old new n : ℕ) → ((i : ℕ) → i < n → has_bit new i ≡ has_bit old i) → ((i : ℕ) → i < n → g i ≡ f i) →
      map g (bits_below new n) ≡ map f (bits_below old n)
  map_below f g old new zero same eq = refl
  map_below f g old new (suc n) same eq =
      let first : map g (bits_below new n) ≡ map f (bits_below old n) = map_below f g old new n (λ i h. same i (omega arith)) (λ i h. eq i (omega arith)) in
      let last : map g (if_set (has_bit new n) n) ≡ map f (if_set (has_bit old n) n) = ap (λ s. map g (if_set s n)) (same n (omega arith))
      ∙ map_if f g (has_bit old n) n (eq n (omega arith)) in
      map-append g (bits_below new n) (if_set (has_bit new n) n) ∙ (λ i. first i ++ last i) ∙ sym (map-append f (bits_below old n) (if_set (has_bit old n) n))

  map_from : (f g : ℕ → Y) (old new b n : ℕ) → ((i : ℕ) → b ≤ i → has_bit new i ≡ has_bit old i) → ((i : ℕ) → b ≤ i → g i ≡ f i) →
      map g (bits_from new b n) ≡ map f (bits_from old b n)
  map_from f g old new b zero same eq = refl
  map_from f g old new b (suc n) same eq =
      let first : map g (bits_from new b n) ≡ map f (bits_from old b n) = map_from f g old new b n same eq in
      let last : map g (if_set (has_bit new (b + n)) (b + n)) ≡ map f (if_set (has_bit old (b + n)) (b + n)) = ap (λ s. map g (if_set s (b + n))) (same (b + n) (omega arith)) ∙ map_if f g (has_bit old (b + n)) (b + n) (eq (b + n) (omega arith)) in
      map-append g (bits_from new b n) (if_set (has_bit new (b + n)) (b + n)) ∙ (λ i. first i ++ last i)
      ∙ sym (map-append f (bits_from old b n) (if_set (has_bit old (b + n)) (b + n)))

  -- the items at the bits below b, at b and above b
  abbrev under : (ℕ → Y) → ℕ → ℕ → List Y
  under f bitmap b = map f (bits_below bitmap b)

  abbrev over : (ℕ → Y) → ℕ → ℕ → List Y
  over f bitmap b = map f (bits_from bitmap (suc b) (31 - b))

  map_round : (f : ℕ → Y) (bitmap b : ℕ) → b < 32 → map f (bits bitmap) ≡ under f bitmap b ++ (map f (if_set (has_bit bitmap b) b) ++ over f bitmap b)
  map_round f bitmap b h =
      ap (λ xs. map f xs) (bits_round bitmap b h)
      ∙ map-append f (bits_below bitmap b) (if_set (has_bit bitmap b) b ++ bits_from bitmap (suc b) (31 - b))
      ∙ ap (λ xs. under f bitmap b ++ xs) (map-append f (if_set (has_bit bitmap b) b) (bits_from bitmap (suc b) (31 - b)))

  map_with : (f : ℕ → Y) (bitmap b : ℕ) → b < 32 → has_bit bitmap b ≡ true → map f (bits bitmap) ≡ under f bitmap b ++ f b ∷ over f bitmap b
  map_with f bitmap b h s = map_round f bitmap b h ∙ ap (λ t. under f bitmap b ++ (map f (if_set t b) ++ over f bitmap b)) s

  map_lacking : (f : ℕ → Y) (bitmap b : ℕ) → b < 32 → has_bit bitmap b ≡ false → map f (bits bitmap) ≡ under f bitmap b ++ over f bitmap b
  map_lacking f bitmap b h s = map_round f bitmap b h ∙ ap (λ t. under f bitmap b ++ (map f (if_set t b) ++ over f bitmap b)) s

  rank_is : (f : ℕ → Y) (bitmap b : ℕ) → rank bitmap b ≡ length (under f bitmap b)
  unfolding rank
  rank_is f bitmap b = sym (length-map (bits_below bitmap b) f)

  -- the item at a set bit is at the bit's rank
  pub map_get : (f : ℕ → Y) (bitmap b : ℕ) (d : Y) → b < 32 → has_bit bitmap b ≡ true → (rank bitmap b < length (map f (bits bitmap))) ×
      (get_or (map f (bits bitmap)) (rank bitmap b) d ≡ f b)
  map_get f bitmap b d h s =
      let is = map_with f bitmap b h s in (
        let n : length (map f (bits bitmap)) ≡ length (under f bitmap b ++ f b ∷ over f bitmap b) = ap (λ (xs : List Y). length xs) is in
            omega (arith, n, length-append (under f bitmap b) (f b ∷ over f bitmap b), rank_is f bitmap b),
        ap (λ xs. get_or xs (rank bitmap b) d) is ∙ get_or_at (under f bitmap b) (f b) (over f bitmap b) d (rank bitmap b) (sym (rank_is f bitmap b)),
      )

  -- setting a bit inserts its item at its rank
  pub map_insert : (f g : ℕ → Y) (old new b : ℕ) → b < 32 → has_bit old b ≡ false → has_bit new b ≡ true →
      ((i : ℕ) → i ≢ b → has_bit new i ≡ has_bit old i) → ((i : ℕ) → i ≢ b → g i ≡ f i)
      → (rank old b ≤ length (map f (bits old))) × (map g (bits new) ≡ insert (map f (bits old)) (rank old b) (g b))
  map_insert f g old new b h was is same eq =
      let low : under g new b ≡ under f old b = map_below f g old new b (λ i k. same i (λ e. omega arith)) (λ i k. eq i (λ e. omega arith)) in
      let high : over g new b ≡ over f old b = map_from f g old new (suc b) (31 - b) (λ i k. same i (λ e. omega arith)) (λ i k. eq i (λ e. omega arith)) in
      let before = map_lacking f old b h was in (
        let n : length (map f (bits old)) ≡ length (under f old b ++ over f old b) = ap (λ (xs : List Y). length xs) before in
            omega (arith, n, length-append (under f old b) (over f old b), rank_is f old b),
        map_with g new b h is ∙ (λ i. low i ++ g b ∷ high i)
            ∙ sym (ap (λ xs. insert xs (rank old b) (g b)) before ∙ insert_at (under f old b) (over f old b) (g b) (rank old b) (rank_is f old b)),
      )

  -- clearing a bit removes its item
  pub map_remove : (f g : ℕ → Y) (old new b : ℕ) → b < 32 → has_bit old b ≡ true → has_bit new b ≡ false →
      ((i : ℕ) → i ≢ b → has_bit new i ≡ has_bit old i) → ((i : ℕ) → i ≢ b → g i ≡ f i)
      → map g (bits new) ≡ remove (map f (bits old)) (rank old b)
  map_remove f g old new b h was is same eq =
      let low : under g new b ≡ under f old b = map_below f g old new b (λ i k. same i (λ e. omega arith)) (λ i k. eq i (λ e. omega arith)) in
      let high : over g new b ≡ over f old b = map_from f g old new (suc b) (31 - b) (λ i k. same i (λ e. omega arith)) (λ i k. eq i (λ e. omega arith)) in
      map_lacking g new b h is ∙ (λ i. low i ++ high i)
      ∙ sym (ap (λ xs. remove xs (rank old b)) (map_with f old b h was)
      ∙ remove_at (under f old b) (over f old b) (f b) (rank old b) (rank_is f old b))

  -- changing the item at a set bit overwrites it at the bit's rank
  pub map_set : (f g : ℕ → Y) (bitmap b : ℕ) → b < 32 → has_bit bitmap b ≡ true → ((i : ℕ) → i ≢ b → g i ≡ f i) →
      map g (bits bitmap) ≡ set (map f (bits bitmap)) (rank bitmap b) (g b)
  map_set f g bitmap b h is eq =
      let low : under g bitmap b ≡ under f bitmap b = map_below f g bitmap bitmap b (λ i k. refl) (λ i k. eq i (λ e. omega arith)) in
      let high : over g bitmap b ≡ over f bitmap b = map_from f g bitmap bitmap (suc b) (31 - b) (λ i k. refl) (λ i k. eq i (λ e. omega arith)) in
      map_with g bitmap b h is ∙ (λ i. low i ++ g b ∷ high i)
      ∙ sym (ap (λ xs. set xs (rank bitmap b) (g b)) (map_with f bitmap b h is)
      ∙ set_at (under f bitmap b) (f b) (over f bitmap b) (g b) (rank bitmap b) (sym (rank_is f bitmap b)))

  -- the same bits with the same items give the same list
  pub map_same : (f g : ℕ → Y) (old new : ℕ) → ((i : ℕ) → has_bit new i ≡ has_bit old i) → ((i : ℕ) → g i ≡ f i) → map g (bits new) ≡ map f (bits old)
  unfolding bits
  map_same f g old new same eq = map_below f g old new 32 (λ i h. same i) (λ i h. eq i)

pub rank-zero : (bitmap : ℕ) → rank bitmap 0 ≡ 0
unfolding rank
rank-zero bitmap = refl

pub rank-more : (bitmap i : ℕ) → rank bitmap (i + 1) ≡ rank bitmap i + cond (has_bit bitmap i) 1 0
unfolding rank
rank-more bitmap i =
    let e : i + 1 ≡ suc i = omega arith in
    ap (λ n. length (bits_below bitmap n)) e ∙ length-append (bits_below bitmap i) (if_set (has_bit bitmap i) i)
    ∙ ap (λ n. length (bits_below bitmap i) + n) (if_set-length (has_bit bitmap i) i)

pub rank-le : (bitmap i : ℕ) → rank bitmap i ≤ i
unfolding rank
rank-le bitmap zero = omega arith
rank-le bitmap (suc i) =
    let ih : length (bits_below bitmap i) ≤ i = rank-le bitmap i in
    elim (has_bit bitmap i) as (λ s. length (bits_below bitmap i ++ if_set s i) ≤ suc i)
    [ true ↦ omega (arith, length-append (bits_below bitmap i) (i ∷ [])) | false ↦ omega (arith, length-append (bits_below bitmap i) []) ]

pub rank-mono : (bitmap i k : ℕ) → rank bitmap i ≤ rank bitmap (i + k)
unfolding rank
rank-mono bitmap i k = omega (arith, ap length (bits_cut bitmap i k), length-append (bits_below bitmap i) (bits_from bitmap i k))

pub rank-all : {Y : Type 0} (f : ℕ → Y) (bitmap : ℕ) → length (map f (bits bitmap)) ≡ rank bitmap 32
unfolding rank bits
rank-all f bitmap = length-map (bits_below bitmap 32) f

pub rank-same : (old new b : ℕ) → ((i : ℕ) → i < b → has_bit new i ≡ has_bit old i) → rank new b ≡ rank old b
rank-same old new b same = rank_is (λ x. x) new b ∙ ap (λ (xs : List ℕ). length xs) (map_below (λ x. x) (λ x. x) old new b same (λ i h. refl))
    ∙ sym (rank_is (λ x. x) old b)

pub rank-within : (bitmap b : ℕ) → b < 32 → rank bitmap b ≤ rank bitmap 32
rank-within bitmap b h = let e : 32 ≡ b + (32 - b) = omega arith in subst (λ n. rank bitmap b ≤ rank bitmap n) (sym e) (rank-mono bitmap b (32 - b))

-- if a bit below n is clear, fewer than n bits are set below n
pub rank-missing : (bitmap n b : ℕ) → b < n → has_bit bitmap b ≡ false → rank bitmap n < n
rank-missing bitmap zero b h some_missing = absurd (omega arith)
rank-missing bitmap (suc n) b h some_missing =
    let e : n + 1 ≡ suc n = omega arith in
    let more = rank-more bitmap n in
    let up : rank bitmap (suc n) ≡ rank bitmap n + cond (has_bit bitmap n) 1 0 = ap (rank bitmap) (sym e) ∙ more in
    ⊎_elim (λ (same : b ≡ n).
    let none : ◌≡◌ {A = ℕ} (cond (has_bit bitmap n) 1 0) 0 = ap (λ s. cond s 1 0) (ap (has_bit bitmap) (sym same) ∙ some_missing) in
    let le = rank-le bitmap n in omega (arith, up, none, le))
    (λ (other : b ≢ n).
    let ih : rank bitmap n < n = rank-missing bitmap n b (omega arith) some_missing in
    let one : cond (has_bit bitmap n) 1 0 ≤ 1 = at_most_one (has_bit bitmap n) in omega (arith, up, one, ih)) (cases_eq b n)
  where
    at_most_one : (s : Bool) → cond s 1 0 ≤ 1
    at_most_one true = omega arith
    at_most_one false = omega arith

pub rank-below : (bitmap b : ℕ) → b < 32 → has_bit bitmap b ≡ true → rank bitmap b < rank bitmap 32
rank-below bitmap b h set =
    let one : ◌≡◌ {A = ℕ} (cond (has_bit bitmap b) 1 0) 1 = ap (λ s. cond s 1 0) set in
    let e : 32 ≡ b + 1 + (31 - b) = omega arith in
    let up : rank bitmap (b + 1) ≤ rank bitmap 32 = subst (λ n. rank bitmap (b + 1) ≤ rank bitmap n) (sym e) (rank-mono bitmap (b + 1) (31 - b)) in
    omega (arith, rank-more bitmap b, one, up)

-- if no bit is set, the list is empty
pub bits_below-none : (bitmap n : ℕ) → ((i : ℕ) → has_bit bitmap i ≡ false) → bits_below bitmap n ≡ []
bits_below-none bitmap zero none = refl
bits_below-none bitmap (suc n) none = ap (λ xs. xs ++ if_set (has_bit bitmap n) n) (bits_below-none bitmap n none) ∙ ap (λ s. if_set s n) (none n)

pub rank-zero-all : rank 0 32 ≡ 0
unfolding rank
rank-zero-all = ap (λ xs. length xs) (bits_below-none 0 32 has_bit-zero)

-- setting a bit raises the rank of the whole bitmap by one
pub rank-more-one : (old new b : ℕ) → b < 32 → has_bit old b ≡ false → has_bit new b ≡ true → ((i : ℕ) → i ≢ b → has_bit new i ≡ has_bit old i) →
    rank new 32 ≡ rank old 32 + 1
rank-more-one old new b h was is same =
    let m = map_insert (λ i. i) (λ i. i) old new b h was is same (λ i n. refl) in
    sym (rank-all (λ i. i) new) ∙ ap (λ (xs : List ℕ). length xs) m.1 ∙ length-insert (map (λ i. i) (bits old)) (rank old b) b m.0
    ∙ ap (λ n. n + 1) (rank-all (λ i. i) old)
