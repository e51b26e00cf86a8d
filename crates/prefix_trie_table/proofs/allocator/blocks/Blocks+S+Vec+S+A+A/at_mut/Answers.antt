-- Overwriting a slot of a used block overwrites that item of its list, so the store stays sound.
use Rattle.prefix_trie_table.proofs.Prelude.{◌∷◌, set, refl, sym, subst, Sound, with_slot}
use Rattle.prefix_trie_table.proofs.Blocks.Soundness.{Sound-set}
use Rattle.prefix_trie_table.proofs.allocator.blocks.Blocks+S+Vec+S+A+A.at_mut.Goals as goal

pub returns : goal.returns
returns g c =
    let v = c.args.self.now in (
      (refl, λ w. rw (← c.self.view_is) refl),
      record {
        writes_back = tt;
        slot = rw (← c.self.view_is) c.index_mut.ensures.value;
        sound = λ value b live offset s is within.
            subst (λ n. Sound g.S.Slot.vacant (record b { items = set b.items offset value } ∷ live) (with_slot v n value)) (sym is)
            (Sound-set g.S.Slot.vacant b live v offset value within s);
      },
    )
