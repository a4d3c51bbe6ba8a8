-- Laws of boards, in the words of the rules.
use Rattle.std.specs.Prelude.{◌≡◌, ℕ, ◌≤◌, List, [], ◌∷◌, Some, slice_get}
use Rattle.c62_op.specs.declared.register.Side.{Side}
use Rattle.c62_insn.specs.declared.insn.Insn.{Insn}
use Rattle.c62_rules.specs.Length.{landing_end}
use Rattle.c62_sheet.specs.declared.entry.Spot.{Spot}
use Rattle.c62_sheet.specs.declared.entry.Entry.{Entry}
use Rattle.c62_sheet.specs.declared.entry.Entry.TheVariants.{Place, Withdraw}
use Rattle.c62_sheet.specs.declared.entry.Who.{Who}
use Rattle.c62_sheet.specs.Lawful.{Spots, issue_at}
use Rattle.c62_sheet.specs.Counts.{set_length}
use Rattle.c62_board.specs.declared.turn.Turn.{Turn}
use Rattle.c62_board.specs.Turn.{IsTurn}
use Rattle.c62_board.specs.Withdrawal.{Withdraws}

-- a side has one turn at most, with one list of entries, and one budget is left
abbrev pub HasOneTurn : List Insn → Spots → ℕ → Side → Type 0
HasOneTurn block set budget side =
    (first second : Turn) (entries others : List Entry) (left rest : ℕ) → IsTurn block set budget side first entries left
    → IsTurn block set budget side second others rest → (first ≡ second) × (entries ≡ others) × (left ≡ rest)

-- it is a turn of the side, with some list of entries, and some budget is left
abbrev pub HasTurn : List Insn → Spots → ℕ → Side → Turn → Type 0
HasTurn block set budget side turn = (entries : List Entry) × ((left : ℕ) × IsTurn block set budget side turn entries left)

-- whoever does it, some entries withdraw i with all that goes with it
abbrev pub HasWithdrawals : List Insn → Spots → ℕ → Type 0
HasWithdrawals block set i = (who : Who) → (entries : List Entry) × Withdraws block set i who entries

-- nothing was withdrawn
abbrev pub HasOnlyPlaces : List Entry → Type 0
HasOnlyPlaces [] = Unit {0}
HasOnlyPlaces (Place i s who ∷ entries) = HasOnlyPlaces entries
HasOnlyPlaces (Withdraw i who ∷ entries) = ⊥

-- what number i writes from this spot has landed when the length of what is placed ends
abbrev pub LandsWithin : List Insn → Spots → ℕ → Spot → Type 0
LandsWithin block set i s = (insn : Insn) → slice_get block i ≡ Some insn → landing_end (issue_at insn s) ≤ set_length block set
