-- What is placed, proposed and withdrawn in the calls on boards.
use Rattle.std.specs.Prelude.{◌≡◌, ◌⊎◌, ℕ, ◌<◌, nat_lt, [], ◌∷◌, List, length, Option, Some, None, if◌then◌else◌}
use Rattle.c62_op.specs.declared.register.Side.{Side}
use Rattle.c62_depend.specs.Plan.{insns_of}
use Rattle.c62_sheet.specs.declared.entry.Entry.{Entry}
use Rattle.c62_sheet.specs.declared.entry.Entry.TheVariants.{Place, Withdraw}
use Rattle.c62_sheet.specs.Least.{Picks}
use Rattle.c62_board.specs.State.{BoardState, IsReadyNow, IsLeastNow}
use Rattle.c62_board.specs.declared.turn.Proposal.{Proposal}

-- the number, where the plan has it
abbrev pub among : BoardState → ℕ → Option ℕ
among board number = if nat_lt number (length board.plan.insns) then Some number else None

-- the pick of a side
pub record IsNext (board : BoardState) (number : ℕ) : Type 0 where
  pub side : Side
  pub picked : Picks (insns_of board.plan) board.spots side (Some number)
  pub within : number < length board.plan.insns

-- the pick of a side at its least spot, by one who saw the whole journal
pub record IsProposed (board : BoardState) (proposal : Proposal) : Type 0 where
  pub next : IsNext board proposal.number
  pub ready : IsReadyNow board proposal.number
  pub least : IsLeastNow board proposal.number proposal.spot
  pub seen : proposal.seen ≡ length board.journal

abbrev pub entry_number : Entry → ℕ
entry_number (Place number spot who) = number
entry_number (Withdraw number who) = number

-- the number of the journal's first entry
pub record IsFirst (board : BoardState) (number : ℕ) : Type 0 where
  pub entry : Entry
  pub rest : List Entry
  pub first : board.journal ≡ entry ∷ rest
  pub number_is : number ≡ entry_number entry
  pub within : number < length board.plan.insns
