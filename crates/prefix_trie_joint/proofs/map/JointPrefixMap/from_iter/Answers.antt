-- A map made from an iterator has the entries of inserting its items in order.
use Rattle.std.proofs.Common.{◌∙◌, ap}
use Rattle.std.proofs.lemmas.Result.{err_from_is_err_and}
use Rattle.prefix_trie.specs.Terms.{put_all}
use Rattle.prefix_trie_map.proofs.Refusals.{memory_alone}
use Rattle.prefix_trie_joint.specs.Networks.{ip_path}
use Rattle.prefix_trie_joint.proofs.CollectedItems.{new_after}
use Rattle.prefix_trie_joint.proofs.map.JointPrefixMap.from_iter.Goals as goal

pub fill-requires-clause-new : goal.fill-requires-clause-new
fill-requires-clause-new g c = let new = c.in_ok-map.ensures.new in (new_after _ new.0, new_after _ new.1)

pub returns-clause-entries : goal.returns-clause-entries
returns-clause-entries g c =
    let puts = c.in_ok-fill.ensures.ok in
    (puts.0, puts.1, puts.2, puts.3, puts.4 ∙ ap (put_all ip_path puts.1) c.in_ok-map.ensures.entries)

pub returns-clause-limit : goal.returns-clause-limit
returns-clause-limit g c = let after = c.in_ok-fill.ensures.ok.5 in (after.0.0, after.1.0)

pub returns-clause-tidy : goal.returns-clause-tidy
returns-clause-tidy g c = let after = c.in_ok-fill.ensures.ok.5 in (after.0.3, after.1.3)

pub returns-in_err-map : goal.returns-in_err-map
returns-in_err-map g c =
    let p = err_from_is_err_and c.from_residual.result c.from_residual.ensures.1 in
    rw (p.1, p.2) (record { entries = tt; tidy = tt; limit = tt; range = λ range. absurd (memory_alone _ c.in_err-map.ensures.only_memory range) })

pub returns-in_err-fill : goal.returns-in_err-fill
returns-in_err-fill g c =
    let p = err_from_is_err_and c.from_residual-in_err-fill.result c.from_residual-in_err-fill.ensures.1 in
    rw (p.1, p.2) (record { entries = tt; tidy = tt; limit = tt; range = c.in_err-fill.ensures.range })
