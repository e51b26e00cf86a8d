-- A map is still a map after the value of the longest match is overwritten.
use borrow.Follows.Closed.{read_of}
use Rattle.prefix_trie_map.proofs.Prelude.{◌≡◌, ◌+◌, ◌≤◌, List, Bool, Some, None, length, take, MatchOption, IfSome, refl, ap, ◌∙◌, subst, arith, ghost_name_of, Entries, longest_match, visits, visits-bound, with_longest_at}
use Rattle.prefix_trie_map.proofs.Steps.{is_map}
use Rattle.prefix_trie_map.proofs.Lending.{IsMap-with_longest_at, match_parts}
use Rattle.prefix_trie_map.proofs.map.PrefixMap.lend_longest.Goals as goal

pub invariant_of-self-lent : goal.invariant_of-self-lent
invariant_of-self-lent g c = λ r. (
  λ x. IsMap-with_longest_at g.P.R.Key.bit_width c.self.inside.table c.self.invariant c.path.result x,
  c.self.invariant,
)

pub returns : goal.returns
returns g c =
    let m = c.self.inside.table in
    let q = c.path.result in
    let path = g.P.Prefix.path c.args.prefix.now in
    let name = ghost_name_of c.find_longest_mut.result in
    let key : q ≡ path = c.path.ensures.path in
    let same : m ≡ c.args.self.now = c.self.view_is in
    let handed = c.find_longest_mut.new.found in
    let Found : Entries g.row.T.Denot → List Bool → Type 0 = λ n s. MatchOption c.find_longest_mut.result
    (longest_match n s ≡ None) (λ value. longest_match n s ≡ Some (take handed s, value.now)) in
    let found = match_parts (handed ≤ length q) (longest_match m.entries q) (take handed q) c.find_longest_mut.result c.find_longest_mut.ensures.value in
    let counted = c.find_longest_mut.ensures.visits ∙ ap (λ s. c.args.counter.now + visits m.nodes s) key ∙ ap (λ n. c.args.counter.now + visits n.nodes path) same in (
      subst (λ n. read_of name (with_longest_at m q) m ≡ read_of name (with_longest_at n path) n) same
          (subst (λ s. read_of name (with_longest_at m q) m ≡ read_of name (with_longest_at m s) m) key refl),
      record {
        writes_back = tt;
        value = subst (λ n. Found n.entries path) same (subst (Found m.entries) key found.0);
        within = subst (λ n. IfSome c.find_longest_mut.result (λ value. handed ≤ n)) (ap length key) found.1;
        exact = counted;
        bound = omega (arith, counted, visits-bound c.args.self.now.nodes path (is_map same c.self.invariant).are_nodes.depths);
      },
    )
