-- The parent of a network: the path is one bit shorter, and the other bits are zeros: for `parent`.
use Rattle.std.proofs.Common.{◌≡◌, ℕ, ◌-◌, ◌^◌, ◌<◌, ◌≤◌, ◌++◌, length, take, sym, ap₂, ◌∙◌, arith}
use Rattle.std.proofs.lemmas.List.{take-take}
use Rattle.prefix_trie_bits.specs.Model.Bits.{number, digits, zeros}
use Rattle.prefix_trie_bits.specs.Begins.{length-first}
use Rattle.prefix_trie_bits.specs.BitStrings.{length-digits}
use Rattle.prefix_trie_bits.specs.Networks.{network_path, network_back}
use Rattle.prefix_trie_bits.proofs.Networks.Ends.{number_is}

pub parent_is : (w : ℕ) (network : ℕ × ℕ) (n v j k : ℕ) → v ≡ network.0 → j ≡ network.1 - 1 → k ≡ network.1 - 1 → network.1 ≤ w → n < 2 ^ w → digits w n ≡ take k (digits w v) ++ zeros (w - k) → (n, j) ≡ network_back w (take (network.1 - 1) (network_path w network))
parent_is w network n v j k addr len kept within fits bits =
    let b = digits w network.0 in
    let m = network.1 - 1 in
    let path = take m (network_path w network) in
    let shorter : path ≡ take m b = take-take m network.1 b (omega arith) in
    let long : length path ≡ m = length-first path b w m shorter (length-digits w network.0) (omega arith) in
    let same : digits w n ≡ take m b ++ zeros (w - m) = bits ∙ ap₂ (λ x i. take i (digits w x) ++ zeros (w - i)) addr kept in
    let number : n ≡ number (path ++ zeros (w - length path)) =
    number_is w n _ fits (same ∙ ap₂ (λ s i. s ++ zeros (w - i)) (sym shorter) (sym long)) in
    λ i. (number i, (len ∙ sym long) i)
