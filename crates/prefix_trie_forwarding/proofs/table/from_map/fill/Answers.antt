-- Giving slots the answers of all networks of a map, one after another, gives them those of the map.
use Rattle.std.proofs.Common.{◌≡◌, ◌∙◌, refl, sym, ap, subst}
use Rattle.std.proofs.Math.Logic.{∥∥₁_map}
use Rattle.prefix_trie_bits.specs.Calls.Entries.{put_all}
use Rattle.prefix_trie_bits.specs.Model.Entries.{no_entries, with_entry}
use Rattle.prefix_trie_forwarding.specs.Needs.{HasNeededGroups}
use Rattle.prefix_trie_forwarding.specs.declared.hop.Hop.{Hop}
use Rattle.prefix_trie_forwarding.proofs.table.from_map.fill.Goals as goal

pub loop-prefix-init : goal.loop-prefix-init
loop-prefix-init g c =
    let gives = c.into_iter-prefix-iterator.ensures.into_iter_gives in
    record {
      next = tt;
      ends = tt;
      root = refl;
      levels = refl;
      follows = (no_entries {T = Hop}, c.put_laws.ensures.starts_empty c.args.map.now.entries (no_entries {T = Hop}) gives.3.is_map.keys_within refl c.into_iter-prefix-iterator.result gives.0, c.requires.follows, c.requires.groups);
    }

pub put-requires-clause-fits : goal.put-requires-clause-fits
put-requires-clause-fits g c =
    let now = c.loop-prefix.invariant.follows in
    c.put_laws.ensures.next_fits now.0 c.args.map.now.entries (c.in-Some.prefix, c.in-Some.hop.now) _ _ c.in-Some.ensures.steps now.1

pub loop-prefix-preserved : goal.loop-prefix-preserved
loop-prefix-preserved g c =
    let before = c.loop-prefix.invariant in
    let now = c.loop-prefix.invariant.follows in
    let follows = rw (c.loop-prefix.invariant.root, c.loop-prefix.invariant.levels) at c.in_ok-put.ensures.follows in
    let groups = rw (c.loop-prefix.invariant.root, c.loop-prefix.invariant.levels) at c.in_ok-put.ensures.groups in
    record {
      next = tt;
      ends = tt;
      root = c.put.ensures.root ∙ before.root;
      levels = c.put.ensures.levels ∙ before.levels;
      follows = (
        with_entry now.0 (g.P.Prefix.path c.in-Some.prefix) c.in-Some.hop.now,
        c.put_laws.ensures.goes_on now.0 (with_entry now.0 (g.P.Prefix.path c.in-Some.prefix) c.in-Some.hop.now) c.args.map.now.entries (c.in-Some.prefix, c.in-Some.hop.now) _ _ c.in-Some.ensures.steps refl now.1,
        follows now.0 now.2,
        ∥∥₁_map now.3 (λ has. groups now.0 has),
      );
    }

pub returns-clause-groups : goal.returns-clause-groups
returns-clause-groups g c =
    let t = c.args.slots.now in
    let now = c.loop-prefix.invariant.follows in
    let all : now.0 ≡ c.args.map.now.entries = sym (ap (λ items. put_all g.P.Prefix.path items now.0) c.in-None.ensures.steps.0) ∙ now.1.1 in
    subst (λ m. ∥ HasNeededGroups t.root_bits t.levels c.loop-prefix.slots.items.items m ∥₁) all now.3
