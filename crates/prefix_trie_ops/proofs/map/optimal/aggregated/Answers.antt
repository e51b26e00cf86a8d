-- The new map has the old value for each full-width lookup, no redundant entry and as few entries as possible, since
-- it is rebuilt from the root.
use Rattle.std.proofs.Common.{◌∙◌, [], None, ap, sym, arith}
use Rattle.std.proofs.lemmas.Result.{err_from_is_err_and}
use Rattle.std.specs.FinMap.{get, len, len-empty}
use Rattle.prefix_trie_bits.proofs.Model.NodeSets.{tidy-no_entries}
use Rattle.prefix_trie_bits.specs.Model.Space.{Space}
use Rattle.prefix_trie.specs.Terms.{listing_cmp, needed}
use Rattle.prefix_trie_ops.specs.Optimal.{value_along}
use Rattle.prefix_trie_ops.specs.Parts.{least}
use Rattle.prefix_trie_ops.proofs.Filling.{passes_from_root}
use Rattle.prefix_trie_ops.proofs.Optimal.LongestMatches.{along_is_redundant, along_is_value}
use Rattle.prefix_trie_ops.proofs.Optimal.Least.{is_smallest, no_fewer}
use Rattle.prefix_trie_ops.proofs.map.optimal.aggregated.Goals as goal

pub returns-clause-values : goal.returns-clause-values
returns-clause-values g c exact q long =
    let m = c.args.table.now.entries in
    let made = c.place_all.new.made.entries in
    let is = c.in_ok-place_all.ensures.rebuilds m c.len.ensures.whole.is_map.keys_within (c.as_slice.ensures.value ∙ c.in_ok-entries.ensures.items)
    (λ t. ap (λ x. get x t) c.in_ok-made.ensures.entries ∙ c.stored_laws.ensures.nothing t) exact in
    sym (along_is_value c.lookup_laws.ensures made q) ∙ is.values q long ∙ along_is_value c.lookup_laws.ensures m q

pub returns-clause-smallest : goal.returns-clause-smallest
returns-clause-smallest g c exact =
    let m = c.args.table.now.entries in
    let made = c.place_all.new.made.entries in
    let is = c.in_ok-place_all.ensures.rebuilds m c.len.ensures.whole.is_map.keys_within (c.as_slice.ensures.value ∙ c.in_ok-entries.ensures.items)
    (λ t. ap (λ x. get x t) c.in_ok-made.ensures.entries ∙ c.stored_laws.ensures.nothing t) exact in
    let none = ap len c.in_ok-made.ensures.entries ∙ len-empty listing_cmp g.row.T.Denot in
    let cost = is.cost in
    is_smallest c.lookup_laws.ensures g.T.PartialEq.eq g.met.T.Eq.laws g.T.Ord.cmp g.met.T.Ord.matches_eq g.P.R.Key.bit_width m made (returns-clause-values g c exact) (omega (arith, none, cost))

pub returns-clause-none_redundant : goal.returns-clause-none_redundant
returns-clause-none_redundant g c exact s =
    let m = c.args.table.now.entries in
    let made = c.place_all.new.made.entries in
    let is = c.in_ok-place_all.ensures.rebuilds m c.len.ensures.whole.is_map.keys_within (c.as_slice.ensures.value ∙ c.in_ok-entries.ensures.items)
    (λ t. ap (λ x. get x t) c.in_ok-made.ensures.entries ∙ c.stored_laws.ensures.nothing t) exact in
    sym (along_is_redundant c.lookup_laws.ensures g.T.PartialEq.eq made s) ∙ is.none_repeated s

-- A new map is tidy, and each insertion keeps a map tidy and within its limit.
pub returns-clause-nodes : goal.returns-clause-nodes
returns-clause-nodes g c =
    c.in_ok-place_all.ensures.fills.tidy (c.in_ok-made.ensures.nodes ∙ tidy-no_entries g.row.T.Denot ∙ ap needed (sym c.in_ok-made.ensures.entries))

pub returns-clause-limit : goal.returns-clause-limit
returns-clause-limit g c = c.in_ok-place_all.ensures.fills.limit ∙ ap (λ (s : Space). s.limit) c.in_ok-made.ensures.space

pub returns-in_err-place_all-clause-range : goal.returns-in_err-place_all-clause-range
returns-in_err-place_all-clause-range g c =
    let p = err_from_is_err_and c.from_residual-in_err-place_all.result c.from_residual-in_err-place_all.ensures.1 in
    rw (p.1, p.2) (λ range exact n same.
    let m = c.args.table.now.entries in
    let eq = g.T.PartialEq.eq in
    let cmp = g.T.Ord.cmp in
    let width = g.P.R.Key.bit_width in
    let many = c.in_err-place_all.ensures.range range m c.len.ensures.whole.is_map.keys_within (c.as_slice.ensures.value ∙ c.in_ok-entries.ensures.items)
    (λ t. ap (λ x. get x t) c.in_ok-made.ensures.entries ∙ c.stored_laws.ensures.nothing t) exact in
    let over = passes_from_root c.in_ok-made.made.space c.args.table.now.space.limit (least eq cmp width (value_along (get m) None []) None) c.in_ok-made.ensures.space many in
    let low = no_fewer c.lookup_laws.ensures eq g.met.T.Eq.laws cmp g.met.T.Ord.matches_eq width m n same in
    omega (arith, over, low))
