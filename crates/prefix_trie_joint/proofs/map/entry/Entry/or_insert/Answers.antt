-- The network is stored after it was filled, so its value can be lent.
use Rattle.std.proofs.Common.{refl, ◌∙◌}
use Rattle.std.proofs.lemmas.Bool.{false≢true}
use Rattle.std.proofs.lemmas.Result.{err_from_is_err_and}
use Rattle.prefix_trie_joint.proofs.Filled.{is_there, refilled, value_set}
use Rattle.prefix_trie_joint.proofs.map.entry.Entry.or_insert.Goals as goal

pub lend_stored-requires : goal.lend_stored-requires
lend_stored-requires g c = let f = c.in_ok-fill.ensures.filled in is_there c.args.self.map.now c.fill.new.map c.args.self.key f.0 f.2

pub returns : goal.returns
returns g c =
    let f = c.in_ok-fill.ensures.filled in
    let m = c.args.self.map.now in
    let n = c.fill.new.map in
    let p = c.args.self.key in (
      (refl, (λ w _. refilled m n p f.0 f.2 w), tt),
      record { writes_back = tt; value = value_set m n p f.0 f.2 c.lend_stored.result.now c.lend_stored.ensures.value ∙ f.1; absent = tt; returned = tt },
    )

pub returns-in_err-fill : goal.returns-in_err-fill
returns-in_err-fill g c =
    let p = err_from_is_err_and c.from_residual.result c.from_residual.ensures.1 in
    let e = c.in_err-fill.ensures in
    rw (p.1, p.2) (
      (refl, (λ w ok. absurd (false≢true ok)), e.refused),
      record { writes_back = tt; value = tt; absent = e.absent; returned = e.returned },
    )
