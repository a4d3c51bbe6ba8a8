use Rattle.std.proofs.Common.{◌≡◌, ◌≤◌}
use Rattle.c62_board.specs.Withdrawal.{marked_below}
use Rattle.c62_board.proofs.withdrawal.count_marked.Given as goal

abbrev pub invariant-loop-k : goal.invariant-loop-k
invariant-loop-k l = record {
  counted : l.count ≡ marked_below l.marks l.k;
  few : l.count ≤ l.k;
}
