-- The step of a side (docs/SCHEDULING.md, "A step of a side").
use Rattle.std.specs.Prelude.{◌≡◌, ℕ, ◌+◌, List, [], ◌∷◌, ◌++◌}
use Rattle.c62_op.specs.declared.register.Side.{Side}
use Rattle.c62_insn.specs.declared.insn.Insn.{Insn}
use Rattle.c62_sheet.specs.declared.entry.Entry.{Entry}
use Rattle.c62_sheet.specs.declared.entry.Entry.TheVariants.{Place}
use Rattle.c62_sheet.specs.declared.entry.Spot.{Spot}
use Rattle.c62_sheet.specs.Lawful.{Spots}
use Rattle.c62_sheet.specs.Least.{IsLeast, HasNoSpot, IsPick, HasNoPick, IsComplete}
use Rattle.c62_sheet.specs.Journal.{replayed}
use Rattle.c62_board.specs.declared.turn.Turn.{Turn}
use Rattle.c62_board.specs.declared.turn.Turn.TheVariants.{Placed, Ejected, Idle, Done, NoRoom, Memory}
use Rattle.c62_board.specs.declared.turn.Choice.{Choice}
use Rattle.c62_board.specs.declared.turn.Choice.TheVariants.{Finished, Wait, Stop, Put, Eject}
use Rattle.c62_board.specs.Who.{who_of}
use Rattle.c62_board.specs.Ejection.{IsEjected}
use Rattle.c62_board.specs.Withdrawal.{Withdraws}

-- the pick of the side goes to its least spot, and nothing makes way
pub record IsPlaced (block : List Insn) (set : Spots) (budget : ℕ) (side : Side) (i : ℕ) (s : Spot) : Type 0 where
  pub pick : IsPick block set side i
  pub least : IsLeast block set i s
  pub kept : (q : ℕ) → IsEjected block set budget i q → ⊥

-- the victim of the side's pick is withdrawn with all that goes with it, and the pick goes to the spot that is its least then
pub record IsEjection (block : List Insn) (set : Spots) (budget : ℕ) (side : Side) (q i : ℕ) (s : Spot) (entries : List Entry) : Type 0 where
  pub pick : IsPick block set side i
  pub ejected : IsEjected block set budget i q
  pub withdrawals : List Entry
  pub withdraws : Withdraws block set q (who_of side) withdrawals
  pub least : IsLeast block (replayed set withdrawals) i s
  pub entries_are : entries ≡ withdrawals ++ Place i s (who_of side) ∷ []

-- some entries do so
abbrev pub EjectsTo : List Insn → Spots → ℕ → Side → ℕ → ℕ → Spot → Type 0
EjectsTo block set budget side q i s = (entries : List Entry) × IsEjection block set budget side q i s entries

-- the pick of the side has no spot
pub record IsStuck (block : List Insn) (set : Spots) (side : Side) (i : ℕ) : Type 0 where
  pub pick : IsPick block set side i
  pub no_spot : HasNoSpot block set i

-- what the side is about to do
abbrev pub IsChoice : List Insn → Spots → ℕ → Side → Choice → Type 0
IsChoice block set budget side Finished = IsComplete block set
IsChoice block set budget side Wait = (IsComplete block set → ⊥) × HasNoPick block set side
IsChoice block set budget side (Stop i) = IsStuck block set side i
IsChoice block set budget side (Put i s) = IsPlaced block set budget side i s
IsChoice block set budget side (Eject q i) = IsPick block set side i × IsEjected block set budget i q

-- the turn of a side on a set with a budget, the entries that it adds, and the budget that it leaves
abbrev pub IsTurn : List Insn → Spots → ℕ → Side → Turn → List Entry → ℕ → Type 0
IsTurn block set budget side Done entries left = IsComplete block set × (entries ≡ []) × (left ≡ budget)
IsTurn block set budget side Idle entries left = (IsComplete block set → ⊥) × HasNoPick block set side × (entries ≡ []) × (left ≡ budget)
IsTurn block set budget side (NoRoom i) entries left = IsStuck block set side i × (entries ≡ []) × (left ≡ budget)
IsTurn block set budget side (Placed i s) entries left = IsPlaced block set budget side i s × (entries ≡ Place i s (who_of side) ∷ []) × (left ≡ budget)
IsTurn block set budget side (Ejected q i s) entries left = IsEjection block set budget side q i s entries × (budget ≡ left + 1)
IsTurn block set budget side Memory entries left = ⊥
