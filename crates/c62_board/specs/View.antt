-- A board by its fields.
use Rattle.std.specs.Prelude.{◌-◌, vec_len, vec_capacity}
use Rattle.c62_board.specs.declared.board.Board.TheInside.{Inside}
use Rattle.c62_board.specs.State.{BoardState, IsSound}

abbrev pub state_of : Inside → BoardState
state_of board = record {
  plan = board.sheet.plan;
  spots = board.sheet.spots;
  journal = board.journal.items;
  budget = board.budget;
  room = vec_capacity board.journal - vec_len board.journal;
}

abbrev pub IsKept : Inside → Type 0
IsKept board = IsSound (state_of board)
