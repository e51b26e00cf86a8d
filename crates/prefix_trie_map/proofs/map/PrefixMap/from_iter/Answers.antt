-- A map made from an iterator has the entries of inserting its items in order, and a new map is tidy.
use Rattle.prefix_trie_map.proofs.Prelude.{◌∙◌, ap, err_from_is_err_and, put_all}
use Rattle.prefix_trie_map.proofs.Collected.{many_pass, tidy_of}
use Rattle.prefix_trie_map.proofs.Refusals.{memory_alone}
use Rattle.prefix_trie_map.proofs.map.PrefixMap.from_iter.Goals as goal

pub returns-clause-entries : goal.returns-clause-entries
returns-clause-entries g c =
    let puts = c.in_ok-fill.ensures.ok in
    (puts.0, puts.1, puts.2, puts.3, puts.4.entries ∙ ap (put_all g.P.Prefix.path puts.1) c.in_ok-map.ensures.entries)

pub returns-clause-tidy : goal.returns-clause-tidy
returns-clause-tidy g c =
    let puts = c.in_ok-fill.ensures.ok in
    tidy_of g.P.Prefix.path c.in_ok-map.map c.fill.new.map puts.1 c.in_ok-map.ensures.entries c.in_ok-map.ensures.nodes puts.4

pub returns-clause-limit : goal.returns-clause-limit
returns-clause-limit g c = c.in_ok-fill.ensures.ok.4.limit ∙ ap (λ space. space.limit) c.in_ok-map.ensures.space

pub returns-in_err-map : goal.returns-in_err-map
returns-in_err-map g c =
    let p = err_from_is_err_and c.from_residual.result c.from_residual.ensures.1 in
    rw (p.1, p.2) (record { entries = tt; tidy = tt; limit = tt; range = λ range. absurd (memory_alone _ c.in_err-map.ensures.only_memory range) })

pub returns-in_err-fill : goal.returns-in_err-fill
returns-in_err-fill g c =
    let p = err_from_is_err_and c.from_residual-in_err-fill.result c.from_residual-in_err-fill.ensures.1 in
    rw (p.1, p.2) (record {
      entries = tt;
      tidy = tt;
      limit = tt;
      range = λ range. let many = c.in_err-fill.ensures.range range in (many.0, many.1, many.2, many.3, many.4, many_pass _ _ c.in_ok-map.ensures.space many.5);
    })
