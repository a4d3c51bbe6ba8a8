use Rattle.std.proofs.Common.{◌≡◌, ◌≤◌, ◌+◌, ◌++◌, vec_len}
use Rattle.std.specs.Prelude.{vec_capacity}
use Rattle.c62_board.specs.Withdrawal.{marked_below, withdrawals}
use Rattle.c62_board.proofs.withdrawal.write_marked.Given as goal

abbrev pub invariant-loop-j : goal.invariant-loop-j
invariant-loop-j l = record {
  rest : l.journal.items ++ withdrawals l.marks l.who l.j ≡ l.fn.journal.items ++ withdrawals l.marks l.who l.n;
  room : vec_len l.journal + marked_below l.marks l.j ≤ vec_capacity l.journal;
  grown : vec_capacity l.fn.journal ≤ vec_capacity l.journal;
  low : l.j ≤ l.n;
}
