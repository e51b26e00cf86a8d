-- What holds of slots that are the same one by one, and which answers stay answers.
use Rattle.std.proofs.Common.{◌≡◌, ℕ, ◌/◌, ◌^◌, ◌<◌, List, nat_eq, slice_index, sym, subst}
use Rattle.std.proofs.lemmas.Bool.{cond_both}
use Rattle.prefix_trie_forwarding.specs.Paths.{IsEnd}
use Rattle.prefix_trie_forwarding.specs.Walks.{HasGroup, HasValues, IsChanged, IsSame, KeepsGroups, answer}
use Rattle.prefix_trie_forwarding.specs.declared.slots.path.End.{End}
use Rattle.prefix_trie_forwarding.proofs.Filling.{IsOnce}

pub same_slots : (xs ys : List ℕ) → ((x : ℕ) → slice_index ys x ≡ slice_index xs x) → slice_index xs ≡ slice_index ys
same_slots xs ys same = λ i x. sym (same x) i

pub keeps_points : (root levels : ℕ) (xs ys : List ℕ) → ((x : ℕ) → slice_index ys x ≡ slice_index xs x) → KeepsGroups root levels (slice_index xs) (slice_index ys)
keeps_points root levels xs ys same a k ia =
    ((λ h. subst (λ f. HasGroup root levels f a k) (sym (same_slots xs ys same)) h), (λ h. subst (λ f. HasGroup root levels f a k) (same_slots xs ys same) h))

pub values_points : (root levels : ℕ) (xs ys : List ℕ) → ((x : ℕ) → slice_index ys x ≡ slice_index xs x) → HasValues root levels (slice_index xs) → HasValues root levels (slice_index ys)
values_points root levels xs ys same values = subst (λ f. HasValues root levels f) (same_slots xs ys same) values

pub end_points : (r levels a len : ℕ) (end : End) (xs ys : List ℕ) → ((x : ℕ) → slice_index ys x ≡ slice_index xs x) → IsEnd r levels (slice_index xs) a len end → IsEnd r levels (slice_index ys) a len end
end_points r levels a len end xs ys same is = subst (λ f. IsEnd r levels f a len end) (same_slots xs ys same) is

pub values_same : (root levels : ℕ) (s t : ℕ → ℕ) → IsSame root levels s t → HasValues root levels s → HasValues root levels t
values_same root levels s t same values a ia = subst (λ v. v < 2147483648) (sym (same a ia)) (values a ia)

pub values_changed : (root levels b bits : ℕ) (f s t : ℕ → ℕ) → IsOnce f → IsChanged root levels b bits f s t → HasValues root levels s → HasValues root levels t
values_changed root levels b bits f s t once change values a ia =
    subst (λ v. v < 2147483648) (sym (change a ia))
    (cond_both (nat_eq (a / 2 ^ bits) (b / 2 ^ bits)) (f (answer root levels s a)) (answer root levels s a) (λ v. v < 2147483648) (λ _. once.small (answer root levels s a) (values a ia)) (λ _. values a ia))
