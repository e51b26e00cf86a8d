-- The masks of a string, in two cases: it ends in this node, or it goes on below one child.
use Rattle.prefix_trie_table.proofs.Prelude.{◌≤◌, length, take, sym, ◌∙◌, arith, drop_all}
use Rattle.std.proofs.lemmas.List.{length-take-le}
use Rattle.prefix_trie_table.proofs.Splitting.Parts.{masks_own, masks_search_path, masks_step}
use Rattle.prefix_trie_table.proofs.table.splitting.masks.Goals as goal

pub returns-then-len-lt5 : goal.returns-then-len-lt5
returns-then-len-lt5 g c =
    let short : length c.args.rest.now ≤ 5 = omega (arith, c.len.ensures.len, c.if-len-lt5.true) in
    record {
      values = c.value_cover_mask.ensures;
      children = masks_own c.args.rest.now _ short c.child_cover_mask.ensures;
      below = c.first.ensures ∙ sym (drop_all 5 c.args.rest.now short);
    }

pub returns : goal.returns
returns g c =
    let long : 5 ≤ length c.args.rest.now = omega (arith, c.len.ensures.len, c.if-len-lt5.false) in
    record {
      values = masks_search_path c.args.rest.now long;
      children = masks_step (take 5 c.args.rest.now) c.child_bit.result c.with_bit.result (length-take-le 5 c.args.rest.now long) c.child_bit.ensures.value c.with_bit.ensures.sets;
      below = c.after.ensures;
    }
