-- What a viewer answers.
use Rattle.std.specs.Prelude.{Option, Some, None, ◌⊎◌, ℕ}
use Rattle.c62_op.specs.declared.register.Side.{Side}
use Rattle.c62_sheet.specs.Least.{IsPick, HasNoPick, HasNoSpot}
use Rattle.c62_board.specs.declared.turn.Proposal.{Proposal}
use Rattle.c62_view.specs.Course.{Course, IsPlanned, block_of, left_by}

-- the answer is made from the course: the pick and its least spot, or there is none
abbrev pub Answers : Course → Side → Option Proposal → Type 0
Answers c of (Some p) = IsPlanned c of p.number p.spot p.seen
Answers c of None = HasNoPick (block_of c) (left_by c) of ⊎ ((i : ℕ) × IsPick (block_of c) (left_by c) of i × HasNoSpot (block_of c) (left_by c) i)
