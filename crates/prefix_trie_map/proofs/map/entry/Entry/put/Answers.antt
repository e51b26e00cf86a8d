-- Filling an entry: an occupied one is overwritten in place, and a vacant one is inserted.
use Rattle.prefix_trie_map.proofs.Prelude.{◌≡◌, IfOk, sym, subst, refl, get, is_none-None, Occupied, Vacant, Fills, entry_value}
use Rattle.std.proofs.lemmas.Result.{IfErr-weaker}
use Rattle.prefix_trie_map.proofs.Entries.{Fills-stored}
use Rattle.prefix_trie_map.proofs.map.entry.Entry.put.Goals as goal

pub returns-in-Occupied-clause-set : goal.returns-in-Occupied-clause-set
returns-in-Occupied-clause-set g c =
    rw c.in-Occupied.is (subst (λ a. IfOk a (λ before. (before ≡ entry_value (Occupied c.in-Occupied.entry)) × Fills (Occupied c.in-Occupied.entry) c.put-in-Occupied.result.map.now c.args.value)) (sym c.put-in-Occupied.ensures.before)
    (refl, subst (λ m. Fills (Occupied c.in-Occupied.entry) m c.args.value) (sym c.put-in-Occupied.ensures.after) (Fills-stored c.in-Occupied.entry c.put-in-Occupied.ensures.whole c.args.value)))

pub returns-in-Occupied-clause-same_map : goal.returns-in-Occupied-clause-same_map
returns-in-Occupied-clause-same_map g c = rw c.in-Occupied.is c.put-in-Occupied.ensures.same_map

pub returns-in-Occupied-clause-refused : goal.returns-in-Occupied-clause-refused
returns-in-Occupied-clause-refused g c = rw c.put-in-Occupied.ensures.before tt

pub returns-in-Vacant : goal.returns-in-Vacant
returns-in-Vacant g c =
    let e = c.in-Vacant.entry in
    let put = c.put.ensures in
    let new = c.put.result.map.now in
    let none = is_none-None (get e.map.now.entries (g.P.Prefix.path e.key)) e.absent in
    rw c.in-Vacant.is (record {
      same_map = put.same_map;
      set = subst (λ o. IfOk c.put.result.answer (λ before. (before ≡ o) × Fills (Vacant e) new c.args.value)) (sym none) put.set;
      refused = IfErr-weaker c.put.result.answer _ _ (λ r said. (said.0, none, said.1)) put.refused;
    })
