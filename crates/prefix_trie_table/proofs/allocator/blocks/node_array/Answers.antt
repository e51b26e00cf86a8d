-- A new array of nodes has a blank root and no blocks, so it is sound.
use Rattle.prefix_trie_table.proofs.Prelude.{◌≡◌, [], ◌∷◌, ◌++◌, Node, Store, length, refl, sym, ap, ◌∙◌, subst, arith, All-map, HasSizes, Tier, no_blocks, node_sizes, blank_node}
use Rattle.prefix_trie_table.proofs.Blocks.Tiers.{node_tiers}
use Rattle.prefix_trie_table.proofs.allocator.blocks.node_array.Goals as goal

pub new-requires-2 : goal.new-requires-2
new-requires-2 g c =
    let root : c.append.new.self.list ≡ blank_node ∷ [] = c.append.ensures.list ∙ (λ i. (c.reserve.ensures.list ∙ c.in_ok-slots.ensures) i ++ c.blank.ensures i ∷ []) in
    record {
      within = (let one : length c.append.new.self.list ≡ 1 = ap length root in omega (arith, one, c.requires));
      sizes = subst HasSizes (sym c.in_ok-lists.ensures) node_tiers;
      none_made = rw c.in_ok-lists.ensures (All-map (λ (t : Tier). (t.made ≡ 0) × (t.starts ≡ [])) no_blocks node_sizes (λ k d h. (refl, refl)));
    }

pub returns : goal.returns
returns g c =
    let root : c.append.new.self.list ≡ blank_node ∷ [] = c.append.ensures.list ∙ (λ i. (c.reserve.ensures.list ∙ c.in_ok-slots.ensures) i ++ c.blank.ensures i ∷ []) in
    record {
      empty = c.new-2.ensures.value ∙ (λ i. record { slots = root i; first = length (root i); tiers = c.in_ok-lists.ensures i; limit = c.args.limit; capacities = (sym (ap (λ (x : Store Node). x.capacities) c.new-2.ensures.value)) i });
      sound = c.new-2.ensures.sound;
    }
