-- Whom a worker calls behind its turn (docs/SCHEDULING.md, "Two workers").
use Rattle.std.specs.Prelude.{ℕ, ◌⊎◌}
use Rattle.c62_op.specs.declared.register.Side.{Side}
use Rattle.c62_depend.specs.Plan.{insns_of}
use Rattle.c62_sheet.specs.Least.{IsPick, IsComplete}
use Rattle.c62_board.specs.declared.turn.Turn.{Turn}
use Rattle.c62_board.specs.declared.turn.Turn.TheVariants.{Placed, Ejected, Idle, Done, NoRoom, Memory}
use Rattle.c62_board.specs.State.{BoardState}
use Rattle.c62_work.specs.Turns.{other_side}

-- there is something for the other side to place, or all is placed
abbrev pub HasNews : Side → BoardState → Type 0
HasNews side board = ((i : ℕ) × IsPick (insns_of board.plan) board.spots (other_side side) i) ⊎ IsComplete (insns_of board.plan) board.spots

-- the other side's worker is called behind a turn that placed something, where that is so on the board behind it
abbrev pub IsCalled : Side → Turn → BoardState → Type 0
IsCalled side (Placed i s) board = HasNews side board
IsCalled side (Ejected q i s) board = HasNews side board
IsCalled side Idle board = ⊥
IsCalled side Done board = ⊥
IsCalled side (NoRoom i) board = ⊥
IsCalled side Memory board = ⊥
