-- A test that may always be called may be called on each entry, or on each key, in order: for `retain`.
use Rattle.prefix_trie.proofs.Prelude.{Bool, List, [], ◌∷◌, refl}
use Rattle.std.specs.Borrow.{Bor}
use Rattle.std.specs.Fn.{Mut, always_mut}
use Rattle.prefix_trie_bits.specs.Calls.Retaining.{CallableOnEachEntry}
use Rattle.prefix_trie.specs.Sets.{CalledAtKey, TakesKey}
use denote.Param.Always.{mut_next}
pub use Rattle.prefix_trie_map.proofs.Calling.{may_ask_of_map}

pub may_ask_of_set : {F P : Type 0} (g : Mut F (Bor P × Unit {0}) Bool) (back : List Bool → P) (f : F) (es : List (List Bool × Unit {0})) → always_mut g f → CallableOnEachEntry (CalledAtKey g back) (TakesKey g back) f es
may_ask_of_set g back f [] h = tt
may_ask_of_set g back f (e ∷ es) h = (
  λ p is. (h.at ((p, tt) ∷ [])).0,
  λ b f' asked. may_ask_of_set g back f' es (mut_next g f (asked.prefix, tt) b f' f' asked.called refl h),
)
