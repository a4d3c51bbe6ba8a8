use Rattle.std.proofs.Common.{◌≡◌, ◌≤◌, ◌+◌, ◌++◌, length}
use Rattle.c62_board.specs.Withdrawal.{marked_below, withdrawals}
use Rattle.c62_board.proofs.withdrawal.list_marked.Given as goal

abbrev pub invariant-loop-j : goal.invariant-loop-j
invariant-loop-j l = record {
  rest : l.entries.items ++ withdrawals l.marks l.who l.j ≡ l.fn.entries.items ++ withdrawals l.marks l.who l.n;
  room : length l.entries.items + (marked_below l.marks l.j + 1) ≤ l.entries.capacity;
  low : l.j ≤ l.n;
}
