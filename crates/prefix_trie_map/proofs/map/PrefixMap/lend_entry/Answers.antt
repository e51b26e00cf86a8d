-- A map is still a map after the value at a path is overwritten.
use borrow.Follows.Closed.{read_of}
use Rattle.prefix_trie_map.proofs.Prelude.{◌≡◌, ◌+◌, ap, ◌∙◌, subst, arith, get, ghost_name_of, visits, visits-bound, with_value_at, with_stored_at}
use Rattle.prefix_trie_map.proofs.Steps.{is_map}
use Rattle.prefix_trie_map.proofs.Lending.{IsMap-with_stored_at, stored_lent}
use Rattle.prefix_trie_map.proofs.map.PrefixMap.lend_entry.Goals as goal

pub invariant_of-self-lent : goal.invariant_of-self-lent
invariant_of-self-lent g c = λ r. (
  λ x. IsMap-with_stored_at g.P.R.Key.bit_width c.self.inside.table c.self.invariant c.path.result x,
  c.self.invariant,
)

pub returns : goal.returns
returns g c =
    let m = c.self.inside.table in
    let q = c.path.result in
    let path = g.P.Prefix.path c.args.prefix.now in
    let name = ghost_name_of c.find_mut.result in
    let key : q ≡ path = c.path.ensures.path in
    let same : m ≡ c.args.self.now = c.self.view_is in
    let counted = c.find_mut.ensures.visits ∙ ap (λ s. c.args.counter.now + visits m.nodes s) key ∙ ap (λ n. c.args.counter.now + visits n.nodes path) same in (
      subst (λ n. read_of name (with_stored_at m q) m ≡ read_of name (with_value_at n path) n) same
          (subst (λ s. read_of name (with_stored_at m q) m ≡ read_of name (with_value_at m s) m) key
          (stored_lent m q c.find_mut.result c.find_mut.ensures.value)),
      record {
        writes_back = tt;
        value = c.find_mut.ensures.value ∙ ap (get m.entries) key ∙ ap (λ n. get n.entries path) same;
        exact = counted;
        bound = omega (arith, counted, visits-bound c.args.self.now.nodes path (is_map same c.self.invariant).are_nodes.depths);
      },
    )
