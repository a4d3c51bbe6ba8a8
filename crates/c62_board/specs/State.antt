-- What contracts see of a board.
use Rattle.std.specs.Prelude.{◌≡◌, ℕ, ◌+◌, ◌<◌, ◌≤◌, ◌++◌, List, [], length, None, IsSome}
use Rattle.c62_op.specs.declared.register.Side.{Side}
use Rattle.c62_read.specs.Block.{Serial}
use Rattle.c62_depend.specs.Plan.{IsPlan, insns_of}
use Rattle.c62_sheet.specs.declared.entry.Entry.{Entry}
use Rattle.c62_sheet.specs.declared.entry.Spot.{Spot}
use Rattle.c62_sheet.specs.declared.entry.Who.{Who}
use Rattle.c62_sheet.specs.Lawful.{Spots, spot_at, nothing_placed, IsLawful}
use Rattle.c62_sheet.specs.Least.{IsReady, IsLeast, HasNoSpot}
use Rattle.c62_sheet.specs.Journal.{replayed, IsLegal}
use Rattle.c62_board.specs.Replay.{IsFirstBad}
use Rattle.c62_board.specs.declared.fault.PlaceFault.{PlaceFault}
use Rattle.c62_board.specs.declared.fault.PlaceFault.TheVariants.{NotReady, NoRoom, Memory}
use Rattle.c62_board.specs.declared.fault.CommitFault.{CommitFault}
use Rattle.c62_board.specs.declared.fault.CommitFault.TheVariants.{NotReady as NotReadyNow, Stale, Memory as NoMemory}
use Rattle.c62_board.specs.declared.fault.WithdrawFault.{WithdrawFault}
use Rattle.c62_board.specs.declared.fault.WithdrawFault.TheVariants.{NotPlaced, Memory as NoMore}
use Rattle.c62_board.specs.declared.fault.ReplayFault.{ReplayFault}
use Rattle.c62_board.specs.declared.fault.ReplayFault.TheVariants.{BadEntry, Memory as NoneLeft}
use Rattle.c62_board.specs.declared.turn.Proposal.{Proposal}
use Rattle.c62_board.specs.declared.turn.Turn.{Turn}
use Rattle.c62_board.specs.declared.turn.Turn.TheVariants.{Placed, Ejected, Memory as OutOfMemory}
use Rattle.c62_board.specs.Turn.{IsTurn}
use Rattle.c62_board.specs.Withdrawal.{Withdraws}

-- the plan, the spot of each number, the journal, the ejections that are left, and for how many more entries there is room
pub record BoardState : Type 0 where
  pub plan : Serial
  pub spots : Spots
  pub journal : List Entry
  pub budget : ℕ
  pub room : ℕ

-- nothing of the plan is placed
abbrev pub nothing_of : Serial → Spots
nothing_of plan = nothing_placed (length plan.insns)

-- what holds of every board: it is lawful, and its journal is legal and replays to it
pub record IsSound (board : BoardState) : Type 0 where
  pub plan : IsPlan (insns_of board.plan)
  pub lawful : IsLawful (insns_of board.plan) board.spots
  pub legal : IsLegal (insns_of board.plan) (nothing_of board.plan) board.journal
  pub replays : replayed (nothing_of board.plan) board.journal ≡ board.spots

-- the entries were added and played, which took at most as much room, and no more was changed
pub record Adds (old : BoardState) (entries : List Entry) (new : BoardState) : Type 0 where
  pub plan : new.plan ≡ old.plan
  pub spots : new.spots ≡ replayed old.spots entries
  pub journal : new.journal ≡ old.journal ++ entries
  pub budget : new.budget ≡ old.budget
  pub room : old.room ≤ new.room + length entries

-- a board of this plan, with these entries and this budget
pub record Has (plan : Serial) (entries : List Entry) (budget : ℕ) (board : BoardState) : Type 0 where
  pub plan_is : board.plan ≡ plan
  pub spots : board.spots ≡ replayed (nothing_of plan) entries
  pub journal : board.journal ≡ entries
  pub budget_is : board.budget ≡ budget

-- an empty board of the same plan, with the same budget and the room of all entries
pub record IsCleared (old new : BoardState) : Type 0 where
  pub empty : Has old.plan [] old.budget new
  pub room : old.room + length old.journal ≤ new.room

-- a number of the block that is ready
pub record IsReadyNow (board : BoardState) (i : ℕ) : Type 0 where
  pub within : i < length (insns_of board.plan)
  pub ready : IsReady (insns_of board.plan) board.spots i

-- the least spot of a number
abbrev pub IsLeastNow : BoardState → ℕ → Spot → Type 0
IsLeastNow board = IsLeast (insns_of board.plan) board.spots

-- why an instruction was not placed
abbrev pub IsPlaceFault : BoardState → ℕ → PlaceFault → Type 0
IsPlaceFault board i NotReady = IsReady (insns_of board.plan) board.spots i → ⊥
IsPlaceFault board i NoRoom = IsReady (insns_of board.plan) board.spots i × HasNoSpot (insns_of board.plan) board.spots i
IsPlaceFault board i Memory = IsReady (insns_of board.plan) board.spots i × ((s : Spot) × IsLeastNow board i s) × (board.room ≡ 0)

-- why a proposal was not committed
abbrev pub IsCommitFault : BoardState → Proposal → CommitFault → Type 0
IsCommitFault board proposal NotReadyNow = IsReadyNow board proposal.number → ⊥
IsCommitFault board proposal (Stale entries) =
    IsReadyNow board proposal.number × (IsLeastNow board proposal.number proposal.spot → ⊥) × (entries ≡ length board.journal)
IsCommitFault board proposal NoMemory =
    IsReadyNow board proposal.number × IsLeastNow board proposal.number proposal.spot × (board.room ≡ 0)

-- i and all that goes with it was withdrawn, so many numbers
pub record IsWithdrawal (old : BoardState) (i : ℕ) (who : Who) (count : ℕ) (new : BoardState) : Type 0 where
  pub entries : List Entry
  pub withdraws : Withdraws (insns_of old.plan) old.spots i who entries
  pub counts : count ≡ length entries
  pub adds : Adds old entries new

-- why an instruction was not withdrawn
abbrev pub IsWithdrawFault : BoardState → ℕ → Who → WithdrawFault → Type 0
IsWithdrawFault board i who NotPlaced = spot_at board.spots i ≡ None
IsWithdrawFault board i who NoMore =
    IsSome (spot_at board.spots i) × ((entries : List Entry) → Withdraws (insns_of board.plan) board.spots i who entries → board.room < length entries)

-- why entries were not replayed
abbrev pub IsReplayFault : Serial → List Entry → ReplayFault → Type 0
IsReplayFault plan entries (BadEntry k) = IsFirstBad (insns_of plan) (nothing_of plan) entries k
IsReplayFault plan entries NoneLeft = Unit {0}

-- there is room for so many entries now, and no more was changed
pub record GainsRoom (old : BoardState) (entries : ℕ) (new : BoardState) : Type 0 where
  pub same : new ≡ record old { room = new.room }
  pub enough : entries ≤ new.room
  pub more : old.room ≤ new.room

-- the side took this turn
pub record TakesTurn (old : BoardState) (side : Side) (turn : Turn) (new : BoardState) : Type 0 where
  pub entries : List Entry
  pub turn_is : IsTurn (insns_of old.plan) old.spots old.budget side turn entries new.budget
  pub adds : Adds (record old { budget = new.budget }) entries new

-- whatever turn the side has, there is no room for its entries
abbrev pub HasNoRoomFor : BoardState → Side → Type 0
HasNoRoomFor board side =
    (turn : Turn) (entries : List Entry) (left : ℕ) → IsTurn (insns_of board.plan) board.spots board.budget side turn entries left → board.room < length entries

-- The step of a side did this. It changed nothing but where it placed.
abbrev pub IsStep : BoardState → Side → Turn → BoardState → Type 0
IsStep old side (Placed i s) new = TakesTurn old side (Placed i s) new
IsStep old side (Ejected q i s) new = TakesTurn old side (Ejected q i s) new
IsStep old side OutOfMemory new = HasNoRoomFor old side × (new ≡ old)
IsStep old side turn new = TakesTurn old side turn new × (new ≡ old)

-- the turn that a side has, and the entries that its step adds
abbrev pub IsAhead : BoardState → Side → Turn → List Entry → Type 0
IsAhead board side turn entries = (left : ℕ) × IsTurn (insns_of board.plan) board.spots board.budget side turn entries left

-- the side's turn has more than four entries
abbrev pub HasManyEntries : BoardState → Side → Type 0
HasManyEntries board = HasNoRoomFor (record board { room = 4 })
