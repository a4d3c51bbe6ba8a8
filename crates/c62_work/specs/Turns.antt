-- Steps of both sides in turn (docs/SCHEDULING.md, "Turns").
use Rattle.std.specs.Prelude.{ℕ, List, [], ◌++◌}
use Rattle.c62_op.specs.declared.register.Side.{Side}
use Rattle.c62_op.specs.declared.register.Side.TheVariants.{A, B}
use Rattle.c62_insn.specs.declared.insn.Insn.{Insn}
use Rattle.c62_depend.specs.Plan.{insns_of}
use Rattle.c62_sheet.specs.declared.entry.Entry.{Entry}
use Rattle.c62_sheet.specs.Lawful.{Spots}
use Rattle.c62_sheet.specs.Journal.{replayed}
use Rattle.c62_board.specs.declared.turn.Turn.{Turn}
use Rattle.c62_board.specs.declared.turn.Turn.TheVariants.{Placed, Ejected, Idle, Done, NoRoom, Memory}
use Rattle.c62_board.specs.Turn.{IsTurn}
use Rattle.c62_board.specs.State.{BoardState, Adds, IsStep}

abbrev pub other_side : Side → Side
other_side A = B
other_side B = A

-- the sides go on after this turn
abbrev pub GoesOn : Turn → Type 0
GoesOn (Placed i s) = Unit {0}
GoesOn (Ejected q i s) = Unit {0}
GoesOn Idle = Unit {0}
GoesOn Done = ⊥
GoesOn (NoRoom i) = ⊥
GoesOn Memory = ⊥

-- Turns of the sides one after another, A first, each on what the one before left: from a set and a budget they add these
-- entries and leave this budget, and it is the turn of this side.
pub data Reaches (block : List Insn) (set : Spots) (budget : ℕ) : Side → List Entry → ℕ → Type 0 where
  start : Reaches block set budget A [] budget
  turn : (side : Side) (entries : List Entry) (left : ℕ) (taken : Turn) (added : List Entry) (rest : ℕ) → Reaches block set budget side entries left
      → IsTurn block (replayed set entries) left side taken added rest → GoesOn taken → Reaches block set budget (other_side side) (entries ++ added) rest

-- The sides took their turns until one was the last: it would change nothing, and they do not go on after it.
pub record TakesTurns (old : BoardState) (last : Turn) (new : BoardState) : Type 0 where
  pub side : Side
  pub entries : List Entry
  pub reached : Reaches (insns_of old.plan) old.spots old.budget side entries new.budget
  pub adds : Adds (record old { budget = new.budget }) entries new
  pub stays : IsStep new side last new
  pub ends : GoesOn last → ⊥
