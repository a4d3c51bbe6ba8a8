-- What a worker does in its turn while it has the lock (docs/SCHEDULING.md, "Two workers").
use Rattle.std.specs.Prelude.{◌≡◌, ◌⊎◌, ℕ, List, [], ◌∷◌, ◌++◌, length, All, Option, Some, None}
use Rattle.c62_op.specs.declared.register.Side.{Side}
use Rattle.c62_sheet.specs.declared.entry.Entry.{Entry}
use Rattle.c62_sheet.specs.declared.entry.Entry.TheVariants.{Place, Withdraw}
use Rattle.c62_sheet.specs.declared.entry.Who.{Who}
use Rattle.c62_board.specs.Who.{who_of}
use Rattle.c62_board.specs.State.{BoardState, Adds, IsReadyNow, IsLeastNow}
use Rattle.c62_board.specs.declared.turn.Proposal.{Proposal}
use Rattle.c62_board.specs.declared.turn.Turn.{Turn}
use Rattle.c62_board.specs.declared.turn.Turn.TheVariants.{Placed, Ejected, Idle, Done, NoRoom, Memory}
use Rattle.c62_view.specs.Changing.{Stays, IsDeskStep}

-- what was planned is placed as it stands: no ejections are left, the number is ready, and the spot is its least spot now
pub record IsToCommit (board : BoardState) (planned : Proposal) : Type 0 where
  pub spent : board.budget ≡ 0
  pub ready : IsReadyNow board planned.number
  pub least : IsLeastNow board planned.number planned.spot

-- it was placed for its side, or memory ran out and nothing but room was changed
abbrev pub IsCommitOf : BoardState → Proposal → Side → Turn → BoardState → Type 0
IsCommitOf old p side (Placed i s) new = (i ≡ p.number) × (s ≡ p.spot) × Adds old (Place p.number p.spot (who_of side) ∷ []) new
IsCommitOf old p side Memory new = Stays old new
IsCommitOf old p side (Ejected q i s) new = ⊥
IsCommitOf old p side Idle new = ⊥
IsCommitOf old p side Done new = ⊥
IsCommitOf old p side (NoRoom i) new = ⊥

-- the side's step was made, on a board that may have more room than the worker found
abbrev pub IsStepOf : BoardState → Side → Turn → BoardState → Type 0
IsStepOf old side came new = (mid : BoardState) × Stays old mid × IsDeskStep mid side came new

-- a worker's turn: what it planned is placed where that is to be, and else the side's step is made
abbrev pub IsWorkersTurn : BoardState → Option Proposal → Side → Turn → BoardState → Type 0
IsWorkersTurn old None side came new = IsStepOf old side came new
IsWorkersTurn old (Some p) side came new =
    (IsToCommit old p × IsCommitOf old p side came new) ⊎ ((IsToCommit old p → ⊥) × IsStepOf old side came new)

-- an entry of a side that places something
abbrev pub PlacesFor : Side → Entry → Type 0
PlacesFor side (Place i s who) = who ≡ who_of side
PlacesFor side (Withdraw i who) = ⊥

-- so many placings of a side were added
pub record AddsPlacings (side : Side) (count : ℕ) (old new : List Entry) : Type 0 where
  pub entries : List Entry
  pub adds : new ≡ old ++ entries
  pub counts : length entries ≡ count
  pub places : All (PlacesFor side) entries
