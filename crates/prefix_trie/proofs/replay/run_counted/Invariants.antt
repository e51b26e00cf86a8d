-- The invariant of `run_counted`: the calls so far, with replies and reads, are steps from the first map.
use Rattle.prefix_trie.proofs.Prelude.{◌≡◌, ◌≤◌, length, take, vec_len, vec_capacity, StepsSoFar, stored_state, calls_of, replies_of}
use Rattle.prefix_trie.proofs.replay.run_counted.Given as goal

abbrev pub invariant-loop-call : goal.invariant-loop-call
invariant-loop-call g l = record {
  each : vec_len l.replies ≡ l.call-index;
  space : length l.calls ≤ vec_capacity l.replies;
  run : StepsSoFar g.P.Prefix.path g.P.Prefix.back g.P.R.Key.bit_width (stored_state l.fn.map) (calls_of (take l.call-index l.calls)) (replies_of g.P.R.Key.bits l.replies.items) l.reads (stored_state l.map);
}
