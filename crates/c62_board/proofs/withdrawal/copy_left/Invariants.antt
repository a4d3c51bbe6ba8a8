use Rattle.std.proofs.Common.{◌≡◌, ℕ, ◌<◌}
use Rattle.c62_sheet.specs.Lawful.{spot_at}
use Rattle.c62_board.specs.Withdrawal.{left_at}
use Rattle.c62_board.proofs.withdrawal.copy_left.Given as goal

abbrev pub invariant-loop-k : goal.invariant-loop-k
invariant-loop-k l = (j : ℕ) → j < l.k → spot_at l.rest j ≡ left_at l.marks l.sheet.spots j
