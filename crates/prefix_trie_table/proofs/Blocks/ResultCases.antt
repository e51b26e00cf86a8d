-- What is known of a `Result` after a test by `is_err`.
use Rattle.prefix_trie_table.proofs.Prelude.{◌≡◌, true, false, Result, Ok, Err, OnOk, OnErr, sym, true≢false}
use Rattle.std.specs.Prelude.{is_err}

module _ {X E P : Type 0} where
  pub told_ok : (r : Result X E) → false ≡ is_err r → OnOk r P → P
  told_ok (Ok x) is p = p
  told_ok (Err e) is p = absurd (true≢false (sym is))

  pub told_err : (r : Result X E) → true ≡ is_err r → OnErr r P → P
  told_err (Ok x) is p = absurd (true≢false is)
  told_err (Err e) is p = p
