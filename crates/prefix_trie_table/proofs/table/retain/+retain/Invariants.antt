-- The invariants of `retain`: each nested call is for a deeper node, and the places so far have only entries that passed.
use Rattle.prefix_trie_table.proofs.Prelude.{◌≡◌, ◌+◌, ◌-◌, ◌*◌, ◌/◌, ◌++◌, List, Bool, true, All, take, length, to_come, IsPlaceOf, is_at_some, IsSite, PreservesBelow, RetainsIn}
use Rattle.prefix_trie_table.proofs.table.retain.+retain.Given as goal

abbrev pub decreases-retain_place : goal.decreases-retain_place
decreases-retain_place g l = 2 * (g.K.Key.bit_width - l.site.depth)

abbrev pub decreases-retain_places : goal.decreases-retain_places
decreases-retain_places g l = 2 * (g.K.Key.bit_width - l.site.depth) + 1

abbrev pub invariant-retain_places-loop-place : goal.invariant-retain_places-loop-place
invariant-retain_places-loop-place g l =
    record {
      site : IsSite g.K.Key.IsKey g.K.Key.bits g.K.Key.bit_width l.nodes l.site l.node;
      each : All (IsPlaceOf l.node) (to_come l.places);
      before : List (List Bool);
      all : to_come l.fn.places ≡ before ++ to_come l.places;
      apart : (q : List Bool) → is_at_some (take l.site.depth (g.K.Key.bits l.site.key)) before q ≡ true →
          is_at_some (take l.site.depth (g.K.Key.bits l.site.key)) (to_come l.places) q ≡ true → ⊥;
      done : RetainsIn g.F.Keep.may_return g.F.Keep.accepts g.K.Key.bit_width (take l.site.depth (g.K.Key.bits l.site.key)) before
          l.fn.keep l.fn.entries l.fn.nodes l.fn.cells l.keep l.entries l.nodes l.cells;
      preserves : PreservesBelow (l.site.depth / 5) l.fn.nodes l.nodes l.fn.cells l.cells;
    }

abbrev pub decreases-retain_places-loop-place : goal.decreases-retain_places-loop-place
decreases-retain_places-loop-place g l = length (to_come l.places)
