-- A consumed set gives the keys of its map, as `into_keys` does.
use Rattle.prefix_trie.proofs.Prelude.{◌≡◌, ◌<◌, ◌^◌, map, length, subst, len, listing, Contents, IsWhole}
use Rattle.prefix_trie.proofs.set.iter.PrefixSetIntoIterator.into_iter.Goals as goal

pub returns : goal.returns
returns g c =
    let called = c.into_keys.ensures in
    record {
      into_iter_gives = subst (λ (s : Contents (Unit {0})). (c.into_keys.result ≡ map (λ e. g.P.Prefix.back e.0) (listing s.entries)) × (length c.into_keys.result ≡ len s.entries)
          × (len s.entries < 2 ^ 64) × IsWhole g.P.R.Key.bit_width s) c.self.view_is
          (called.items, called.counted, called.fits, called.whole);
    }
