-- What every schedule comes to (docs/SCHEDULING.md, "Two workers").
use Rattle.std.specs.Prelude.{◌≡◌}
use Rattle.c62_read.specs.Block.{Serial}
use Rattle.c62_depend.specs.Plan.{insns_of}
use Rattle.c62_sheet.specs.Least.{IsComplete}
use Rattle.c62_board.specs.State.{BoardState, IsSound}

-- a board of this plan on which every instruction is placed, with all that holds of every board
pub record IsWhole (plan : Serial) (board : BoardState) : Type 0 where
  pub plan_is : board.plan ≡ plan
  pub complete : IsComplete (insns_of plan) board.spots
  pub sound : IsSound board
