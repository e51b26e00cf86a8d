-- Facts that show what the fewest networks are, at addresses of one bit.
use Rattle.std.specs.Prelude.{◌==◌, true, false, [], ◌∷◌}
use Rattle.address_ranges.specs.Networks.{AreFewest}

pub record FewestFacts : Type 0 where
  -- one network has both addresses
  pub whole : AreFewest 1 (λ n. true) ([] ∷ [])
  -- so two networks are not the fewest
  pub halves : AreFewest 1 (λ n. true) ((false ∷ []) ∷ (true ∷ []) ∷ []) → ⊥
  -- a network that has another address is none of them
  pub too_large : AreFewest 1 (λ n. n == 1) ([] ∷ []) → ⊥
  -- no network is needed for no address
  pub none : AreFewest 1 (λ n. false) []
  -- and one too few leaves an address out
  pub too_few : AreFewest 1 (λ n. true) ((false ∷ []) ∷ []) → ⊥
