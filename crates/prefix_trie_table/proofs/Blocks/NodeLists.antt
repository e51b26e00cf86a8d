-- Nodes are stored in two arrays, one of their tiers packed into a byte and one of their other fields.
use Rattle.prefix_trie_table.proofs.Prelude.{◌≡◌, ℕ, zero, suc, ◌+◌, ◌*◌, ◌/◌, ◌%◌, ◌<◌, subst, List, [], ◌∷◌, ◌++◌, length, get_or, set, take, insert, remove, refl, ap, arith, Node}
use Rattle.prefix_trie_table.specs.Blocks.NodeArrays.{FitsByte, node_of, nodes_of}
use Rattle.prefix_trie_table.specs.declared.allocator.node_array.Head.{Head}

pub length-nodes : (hs : List Head) (ns : List ℕ) → length hs ≡ length ns → length (nodes_of hs ns) ≡ length hs
length-nodes [] ns e = refl
length-nodes (h ∷ hs) [] e = absurd (omega (arith, e))
length-nodes (h ∷ hs) (n ∷ ns) e = ap suc (length-nodes hs ns (omega (arith, e)))

pub nodes-append : (hs : List Head) (ns : List ℕ) (h : Head) (n : ℕ) → length hs ≡ length ns → nodes_of (hs ++ h ∷ []) (ns ++ n ∷ []) ≡ nodes_of hs ns ++ node_of h n ∷ []
nodes-append [] [] h n e = refl
nodes-append [] (m ∷ ns) h n e = absurd (omega (arith, e))
nodes-append (g ∷ hs) [] h n e = absurd (omega (arith, e))
nodes-append (g ∷ hs) (m ∷ ns) h n e = ap (λ xs. node_of g m ∷ xs) (nodes-append hs ns h n (omega (arith, e)))

pub nodes-set : (hs : List Head) (ns : List ℕ) (i : ℕ) (h : Head) (n : ℕ) → length hs ≡ length ns → nodes_of (set hs i h) (set ns i n) ≡ set (nodes_of hs ns) i (node_of h n)
nodes-set [] ns zero h n e = refl
nodes-set [] ns (suc i) h n e = refl
nodes-set (g ∷ hs) [] i h n e = absurd (omega (arith, e))
nodes-set (g ∷ hs) (m ∷ ns) zero h n e = refl
nodes-set (g ∷ hs) (m ∷ ns) (suc i) h n e = ap (λ xs. node_of g m ∷ xs) (nodes-set hs ns i h n (omega (arith, e)))

pub nodes-take : (k : ℕ) (hs : List Head) (ns : List ℕ) → length hs ≡ length ns → nodes_of (take k hs) (take k ns) ≡ take k (nodes_of hs ns)
nodes-take zero hs ns e = refl
nodes-take (suc k) [] ns e = refl
nodes-take (suc k) (h ∷ hs) [] e = absurd (omega (arith, e))
nodes-take (suc k) (h ∷ hs) (n ∷ ns) e = ap (λ xs. node_of h n ∷ xs) (nodes-take k hs ns (omega (arith, e)))

pub nodes-insert : (hs : List Head) (ns : List ℕ) (i : ℕ) (h : Head) (n : ℕ) → length hs ≡ length ns → nodes_of (insert hs i h) (insert ns i n) ≡ insert (nodes_of hs ns) i (node_of h n)
nodes-insert [] [] zero h n e = refl
nodes-insert [] [] (suc i) h n e = refl
nodes-insert [] (m ∷ ns) i h n e = absurd (omega (arith, e))
nodes-insert (g ∷ hs) [] i h n e = absurd (omega (arith, e))
nodes-insert (g ∷ hs) (m ∷ ns) zero h n e = refl
nodes-insert (g ∷ hs) (m ∷ ns) (suc i) h n e = ap (λ xs. node_of g m ∷ xs) (nodes-insert hs ns i h n (omega (arith, e)))

pub nodes-remove : (hs : List Head) (ns : List ℕ) (i : ℕ) → length hs ≡ length ns → nodes_of (remove hs i) (remove ns i) ≡ remove (nodes_of hs ns) i
nodes-remove [] [] zero e = refl
nodes-remove [] [] (suc i) e = refl
nodes-remove [] (m ∷ ns) i e = absurd (omega (arith, e))
nodes-remove (g ∷ hs) [] i e = absurd (omega (arith, e))
nodes-remove (g ∷ hs) (m ∷ ns) zero e = refl
nodes-remove (g ∷ hs) (m ∷ ns) (suc i) e = ap (λ xs. node_of g m ∷ xs) (nodes-remove hs ns i (omega (arith, e)))

pub get_or-nodes : (hs : List Head) (ns : List ℕ) (i : ℕ) (h : Head) (n : ℕ) (d : Node) → length hs ≡ length ns → i < length hs → node_of (get_or hs i h) (get_or ns i n) ≡ get_or (nodes_of hs ns) i d
get_or-nodes [] ns i h n d e w = absurd (omega (arith, w))
get_or-nodes (g ∷ hs) [] i h n d e w = absurd (omega (arith, e))
get_or-nodes (g ∷ hs) (m ∷ ns) zero h n d e w = refl
get_or-nodes (g ∷ hs) (m ∷ ns) (suc i) h n d e w = get_or-nodes hs ns i h n d (omega (arith, e)) (omega (arith, w))

-- any head, where only the byte of a node is used
abbrev pub blank_head : Head
blank_head = record { value_bitmap = 0; child_bitmap = 0; value_block = 0; child_block = 0 }

-- packing the two tiers of a node into a byte and unpacking them gives the node
pub packed : (n : Node) → FitsByte n → node_of (record { value_bitmap = n.value_bitmap; child_bitmap = n.child_bitmap; value_block = n.value_block; child_block = n.child_block }) (n.value_tier + 8 * n.child_tier) ≡ n
packed n fits =
    let low : (n.value_tier + 8 * n.child_tier) % 8 ≡ n.value_tier = omega (arith, fits.value_tier) in
    let high : (n.value_tier + 8 * n.child_tier) / 8 ≡ n.child_tier = omega (arith, fits.value_tier) in
    λ i. record { value_bitmap = n.value_bitmap; child_bitmap = n.child_bitmap; value_block = n.value_block; child_block = n.child_block; value_tier = low i; child_tier = high i }

pub unpacked : (h : Head) (n : ℕ) → n < 256 → FitsByte (node_of h n)
unpacked h n small = record { value_tier = omega arith; child_tier = omega arith }

-- the tiers of each stored node fit a byte
pub nodes_fit : (hs : List Head) (ns : List ℕ) (i : ℕ) (h : Head) (d : Node) → length hs ≡ length ns → ((k : ℕ) → get_or ns k 0 < 256) → i < length hs → FitsByte (get_or (nodes_of hs ns) i d)
nodes_fit hs ns i h d e small within = subst FitsByte (get_or-nodes hs ns i h 0 d e within) (unpacked (get_or hs i h) (get_or ns i 0) (small i))
