-- What is found is printed.
use Rattle.prefix_trie.specs.Terms.{covers, listing_below, prefix_pairs}
use Rattle.prefix_trie_joint.specs.Joined.{entries_of}
use Rattle.prefix_trie_joint.specs.Networks.{ip_back, ip_path}
use Rattle.route_tables.proofs.Lookups.{walk_printed}
use Rattle.route_tables.proofs.commands.lookups.print_found.Goals as goal

pub returns-in-Covering : goal.returns-in-Covering
returns-in-Covering g c = rw c.in-Covering.is (walk_printed c.args.text.now _ (prefix_pairs ip_back (covers (entries_of c.args.table.now) (ip_path c.args.network))) c.args.out.now c.print_each.new.out c.print_each.result c.print_each.ensures c.cover.ensures.items)

pub returns-in-Contained : goal.returns-in-Contained
returns-in-Contained g c = rw c.in-Contained.is (walk_printed c.args.text.now _ (prefix_pairs ip_back (listing_below (entries_of c.args.table.now) (ip_path c.args.network))) c.args.out.now c.print_each-in-Contained.new.out c.print_each-in-Contained.result c.print_each-in-Contained.ensures c.children.ensures.items)
