-- The definitions of the model and of the map that a caller's own contract needs, in one list.
pub use Rattle.prefix_trie_bits.specs.Model.Bits.{begins, digits, number, zeros}
pub use Rattle.prefix_trie_bits.specs.Keys.{narrow_width}
pub use Rattle.prefix_trie_bits.specs.Networks.{network_path, network_back, network_cmp, lowest_address, highest_address, HasNoHostBits}
pub use Rattle.prefix_trie_bits.specs.Order.{IsBefore}
pub use Rattle.prefix_trie_bits.specs.Model.Order.{listing_cmp}
pub use Rattle.prefix_trie_bits.specs.Texts.{ipv4_network_text, ipv6_network_text, ipv6_full_text, IsIpv4NetworkText, IsIpv6NetworkText, ParsesIpv4Network, ParsesIpv6Network, IsNarrowText, ParsesNarrow, parse_network_error_text, parse_narrow_error_text}
pub use Rattle.prefix_trie_bits.specs.Model.Entries.{Entries, no_entries, with_entry, without_entry, without_below}
pub use Rattle.prefix_trie_bits.specs.Calls.Entries.{part_below, put_all, AreWithin}
pub use Rattle.prefix_trie_bits.specs.Model.Nodes.{Nodes, needed, with_needed, nodes_without, nodes_without_below, root_alone, IsTidy}
pub use Rattle.prefix_trie_bits.specs.Calls.Nodes.{AreNodes}
pub use Rattle.prefix_trie_bits.specs.Model.Selections.{listing, listing_from, listing_after, listing_below, prefix_pairs}
pub use Rattle.prefix_trie_bits.specs.Model.Matches.{first_item, last_item, covers, longest_match, shortest_match, prefix_pair}
pub use Rattle.prefix_trie_bits.specs.Calls.Matches.{IsMatch, IsLongestMatch, IsShortestMatch}
pub use Rattle.prefix_trie_bits.specs.Model.Addresses.{addresses, address_total}
pub use Rattle.prefix_trie_bits.specs.Calls.SplitsOff.{SplitsOff, IsPacked, packed_node_slots, packed_cell_slots}
pub use Rattle.prefix_trie_bits.specs.Laws.SplitsOff.{Splits}
pub use Rattle.prefix_trie_table.specs.GrowthBounds.{headroom_of}
pub use Rattle.prefix_trie_table.specs.Shape.{with_value_at, with_match_at, with_longest_at}
pub use Rattle.prefix_trie_table.specs.Steps.{BoundsStorageGrowth}
pub use Rattle.prefix_trie_table.specs.Walking.Combined.{IsCombination, IsCombinedCursorIn, combined_to_come}
pub use Rattle.prefix_trie_map.specs.Walks.{GivesItem, lent_item}
pub use Rattle.prefix_trie_map.specs.Whole.{IsWhole}
pub use Rattle.prefix_trie.specs.Sets.{CalledAtKey, TakesKey, as_item, set_insert_reply, same_keys, same_parts, set_remove_reply}
pub use Rattle.prefix_trie.specs.Model.Replay.{IsFittingCall, call_of, calls_of, reply_of, replies_of}
pub use Rattle.prefix_trie.specs.Networks.{ipv4_address, ipv4_path, ipv4_back, ipv6_address, ipv6_path, ipv6_back}
pub use Rattle.prefix_trie.specs.Laws.Lookups.{IsUncovered}
pub use Rattle.prefix_trie.specs.Laws.Putting.{Leads}
pub use Rattle.prefix_trie.specs.Laws.Joining.{Joins, joined_by, join_all, with_value}
pub use Rattle.prefix_trie.specs.Rewriting.{OrderedIn, RewritesIn}
