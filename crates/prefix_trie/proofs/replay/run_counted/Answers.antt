-- The loop of a run: the calls so far are counted steps, and each has one reply. If memory for replies is missing, no
-- call was carried out.
use Rattle.prefix_trie.proofs.Prelude.{List, [], refl, sym, ap, subst, err_from_is_err_and, arith, take_all, path_within, step_pushed, run_counted, StepsSoFar, all_fit_more, stored_state, call_of, reply_of, calls_of, replies_of}
use Rattle.prefix_trie.specs.Model.Replay.{IsFittingCall}
use Rattle.prefix_trie.specs.declared.replay.Call.{Call}
use Rattle.prefix_trie.proofs.replay.run_counted.Goals as goal

pub loop-call-init : goal.loop-call-init
loop-call-init g c = record {
  each = c.in_ok-replies.ensures.len;
  space = c.in_ok-replies.ensures.capacity;
  run = ([], sym (ap (replies_of g.P.R.Key.bits) c.in_ok-replies.ensures.items), sym c.new-reads.ensures, (refl, refl));
}

pub carry_out-reply-requires : goal.carry_out-reply-requires
carry_out-reply-requires g c = subst (IsFittingCall g.P.Prefix.IsFitting) (sym c.call-item.is) (c.requires c.loop-call.call-index c.call-item.result c.loop-call-test.true)

pub push_reserved-requires : goal.push_reserved-requires
push_reserved-requires g c = omega (arith, c.loop-call.invariant.each, c.loop-call.invariant.space, c.loop-call-test.true)

pub loop-call-preserved : goal.loop-call-preserved
loop-call-preserved g c =
    let before = c.loop-call.invariant in
    record {
      each = omega (arith, c.push_reserved.ensures.len, before.each);
      space = omega (arith, c.push_reserved.ensures.capacity, before.space);
      run = step_pushed g.P.Prefix.path g.P.Prefix.back g.P.R.Key.bit_width call_of (reply_of g.P.R.Key.bits) (stored_state c.args.map.now) (stored_state c.loop-call.map) (stored_state c.carry_out-reply.new.map)
          c.args.calls.now c.loop-call.replies.items c.push_reserved.new.self.items c.loop-call.reads c.push.new.self c.loop-call.call-index c.call-item.result c.carry_out-reply.result.0 c.carry_out-reply.result.1
          c.loop-call-test.true c.call-item.is c.push_reserved.ensures.items c.push.ensures before.run c.carry_out-reply.ensures;
    }

pub returns-clause-counted : goal.returns-clause-counted
returns-clause-counted g c = λ tidy is_tidy.
    run_counted g.P.Prefix.path g.P.Prefix.back g.P.R.Key.bit_width tidy _ _ _ _ _
    (all_fit_more (path_within g.met.P.Prefix.prefix_laws) call_of c.args.calls.now c.requires) c.len.ensures.whole.is_map is_tidy
    (subst (λ (cs : List (Call g.row.P.Denot)). StepsSoFar g.P.Prefix.path g.P.Prefix.back g.P.R.Key.bit_width (stored_state c.args.map.now) (calls_of cs) (replies_of g.P.R.Key.bits c.loop-call.replies.items) c.loop-call.reads (stored_state c.loop-call.map))
    (take_all c.loop-call.call-index c.args.calls.now (omega (arith, c.loop-call-test.false))) c.loop-call.invariant.run)

pub returns-in_err-clone-clause-none_carried_out : goal.returns-in_err-clone-clause-none_carried_out
returns-in_err-clone-clause-none_carried_out g c = let p = err_from_is_err_and c.from_residual.result c.from_residual.ensures.1 in rw p.1 refl

pub returns-in_err-replies-clause-none_carried_out : goal.returns-in_err-replies-clause-none_carried_out
returns-in_err-replies-clause-none_carried_out g c = let p = err_from_is_err_and c.from_residual-in_err-replies.result c.from_residual-in_err-replies.ensures.1 in rw p.1 refl

pub returns-clause-one_each : goal.returns-clause-one_each
returns-clause-one_each g c = omega (arith, c.loop-call.invariant.each, c.loop-call-test.false, c.loop-call.auto.call-index-end)
