-- A prefix made from the number and the length of another fits and has the same path, by the laws of `Prefix`.
use Rattle.prefix_trie.proofs.Prelude.{take, sym, ap, ap₂, ◌∙◌, ◌≤◌, subst}
use Rattle.prefix_trie.proofs.replay.same_path.Goals as goal

pub from_repr_len-requires : goal.from_repr_len-requires
from_repr_len-requires g c =
    let f = (g.met.P.Prefix.prefix_laws.fits_is c.args.prefix.now).0 c.requires in
    record { key = subst g.P.R.Key.IsKey (sym c.repr.ensures) f.0; within = subst (λ n. n ≤ g.P.R.Key.bit_width) (sym c.prefix_len.ensures) f.1 }

pub returns : goal.returns
returns g c =
    let laws = g.met.P.Prefix.prefix_laws in
    let f = (laws.fits_is c.args.prefix.now).0 c.requires in
    let key = subst g.P.R.Key.IsKey (sym c.repr.ensures) f.0 in
    let within = subst (λ n. n ≤ g.P.R.Key.bit_width) (sym c.prefix_len.ensures) f.1 in
    record {
      fits = subst g.P.Prefix.IsFitting (sym c.from_repr_len.ensures) (laws.fits_from_parts c.repr.result c.prefix_len.result key within);
      path = ap g.P.Prefix.path c.from_repr_len.ensures ∙ laws.path_from_parts c.repr.result c.prefix_len.result key within
          ∙ ap₂ (λ n r. take n (g.P.R.Key.bits r)) c.prefix_len.ensures c.repr.ensures ∙ sym (laws.path_is c.args.prefix.now);
    }
