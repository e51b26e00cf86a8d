-- The invariant of the loop: the networks so far are copied, and all networks fit.
use Rattle.std.proofs.Common.{◌≡◌, ◌^◌, ◌<◌, ◌≤◌, All, length}
use Rattle.route_tables.proofs.Groups.{AreCopied}
use Rattle.route_tables.proofs.commands.groups.copy_ipv4.Given as goal

abbrev pub invariant-loop-i : goal.invariant-loop-i
invariant-loop-i l = record {
  copied : AreCopied l.networks l.asked l.i;
  fit : All (λ p. (p.0 < 2 ^ 32) × (p.1 ≤ 32)) l.asked;
  same : length l.asked ≡ length l.fn.asked;
}
