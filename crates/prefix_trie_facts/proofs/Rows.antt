-- Proves the worked rows: the plain model computes the reply of each call.
use Rattle.prefix_trie_facts.proofs.Prelude.{refl, digits, number, begins, LookupsHold, WalksHold, RemovalsHold, LimitsHold, WidthsHold, AddressesHold}
use Rattle.prefix_trie_bits.proofs.Model.Halves.{halves}
use Rattle.prefix_trie_facts.proofs.Replies.{gives}

pub lookups_hold : LookupsHold
unfolding digits number begins halves
lookups_hold = record {
  row1 = gives refl;
  row3 = gives refl;
  row4 = gives refl;
  row25 = gives refl;
  row27 = gives refl;
  row28 = gives refl;
}

pub walks_hold : WalksHold
unfolding digits number begins halves
walks_hold = record { row8 = gives refl; row34 = gives refl }

pub removals_hold : RemovalsHold
unfolding digits number begins halves
removals_hold = record {
  row9 = gives refl;
  row10 = gives refl;
  row20 = gives refl;
  row22 = gives refl;
  row31_second = gives refl;
  row31_third = gives refl;
  row32 = gives refl;
  row48_first = gives refl;
  off_the_path = gives refl;
  at_least = gives refl;
}

pub limits_hold : LimitsHold
unfolding digits number begins halves
limits_hold = record {
  row13 = gives refl;
  row14 = gives refl;
  row15 = gives refl;
  row17 = gives refl;
  row38 = gives refl;
  row40 = gives refl;
}

pub widths_hold : WidthsHold
unfolding digits number begins halves
widths_hold = record {
  row6 = gives refl;
  row29 = gives refl;
  row41_wide = gives refl;
  row45 = gives refl;
  row46 = gives refl;
  row46_three = gives refl;
}

pub addresses_hold : AddressesHold
unfolding digits number begins halves
addresses_hold = record { row11_networks = gives refl; row35_wide = gives refl }
