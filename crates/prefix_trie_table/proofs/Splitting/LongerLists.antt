-- Lists of bits with one more after all others.
use Rattle.prefix_trie_table.proofs.Prelude.{◌≡◌, ◌≢◌, ℕ, zero, suc, ◌+◌, ◌-◌, ◌<◌, ◌≤◌, true, false, cond, List, [], ◌∷◌, ◌++◌, length, map, replicate, insert, Option, None, refl, sym, ap, ◌∙◌, arith, insert_end, has_bit, bits, rank}
use Rattle.prefix_trie_table.proofs.Strings.BitLists.{map_insert, rank-all, rank-more}

-- no bit is set after i
rank_past : (old i : ℕ) → ((c : ℕ) → i ≤ c → has_bit old c ≡ false) → (k : ℕ) → rank old (i + k) ≡ rank old i
rank_past old i none zero = ap (rank old) (let e : i + 0 ≡ i = omega arith in e)
rank_past old i none (suc k) =
    let last : ◌≡◌ {A = ℕ} (cond (has_bit old (i + k)) 1 0) 0 = ap (λ s. cond s 1 0) (none (i + k) (omega arith)) in
    let up : rank old (i + suc k) ≡ rank old (i + k) + cond (has_bit old (i + k)) 1 0 = ap (rank old) (let e : i + suc k ≡ i + k + 1 = omega arith in e) ∙ rank-more old (i + k) in
    omega (arith, last, up, rank_past old i none k)

pub map-pushed : {Y : Type 0} (f g : ℕ → Y) (old new i : ℕ) → i < 32 → ((c : ℕ) → i ≤ c → has_bit old c ≡ false) → has_bit new i ≡ true →
    ((c : ℕ) → c ≢ i → has_bit new c ≡ has_bit old c) → ((c : ℕ) → c ≢ i → g c ≡ f c) → map g (bits new) ≡ map f (bits old) ++ g i ∷ []
map-pushed f g old new i small none set same eq =
    let xs : List _ = map f (bits old) in
    let all : rank old 32 ≡ rank old i = ap (rank old) (let e : 32 ≡ i + (32 - i) = omega (arith, small) in e) ∙ rank_past old i none (32 - i) in
    (map_insert f g old new i small (none i (omega arith)) set same eq).1
    ∙ ap (λ k. insert xs k (g i)) (sym all ∙ sym (rank-all f old))
    ∙ insert_end xs (g i)

pub map-nothing : {T : Type 0} (xs : List ℕ) → map (λ (b : ℕ). let o : Option T = None in o) xs ≡ replicate (length xs) None
map-nothing [] = refl
map-nothing (x ∷ xs) = ap (λ ys. None ∷ ys) (map-nothing xs)
