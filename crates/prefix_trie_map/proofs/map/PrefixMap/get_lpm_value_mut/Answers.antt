-- The longest match has the value that is lent, whatever the match's length is.
use Rattle.prefix_trie_map.proofs.Prelude.{take, refl, longest_match}
use Rattle.prefix_trie_map.proofs.Lending.{lent_value}
use Rattle.prefix_trie_map.proofs.map.PrefixMap.get_lpm_value_mut.Goals as goal

pub returns : goal.returns
returns g c =
    let path = g.P.Prefix.path c.args.prefix.now in (
      refl,
      record {
        writes_back = tt;
        value = lent_value (longest_match c.args.self.now.entries path) (take c.lend_longest.new.found path) c.lend_longest.result c.lend_longest.ensures.value;
      },
    )
