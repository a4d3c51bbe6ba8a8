-- What is left when the sides have stopped (docs/SCHEDULING.md, "Finishing").
use Rattle.std.specs.Prelude.{◌≡◌, ◌⊎◌, ℕ, ◌<◌, List, [], ◌∷◌, ◌++◌, length, None, IsSome}
use Rattle.c62_insn.specs.declared.insn.Insn.{Insn}
use Rattle.c62_read.specs.Block.{Serial}
use Rattle.c62_depend.specs.Plan.{insns_of}
use Rattle.c62_sheet.specs.declared.entry.Entry.{Entry}
use Rattle.c62_sheet.specs.declared.entry.Entry.TheVariants.{Place, Withdraw}
use Rattle.c62_sheet.specs.declared.entry.Who.TheVariants.{A, B, Tail}
use Rattle.c62_sheet.specs.Lawful.{Spots, spot_at, placed}
use Rattle.c62_sheet.specs.Least.{IsLeast, IsComplete}
use Rattle.c62_board.specs.State.{BoardState, nothing_of, Has, Adds}

-- the lowest number that is not placed
pub record IsLowestMissing (block : List Insn) (set : Spots) (i : ℕ) : Type 0 where
  pub within : i < length block
  pub free : spot_at set i ≡ None
  pub below : (k : ℕ) → k < i → IsSome (spot_at set k)

-- the entries complete a set: each places the lowest missing number at its least spot then, by the tail
abbrev pub FillsUp : List Insn → Spots → List Entry → Type 0
FillsUp block set [] = IsComplete block set
FillsUp block set (Place i s Tail ∷ entries) = IsLowestMissing block set i × IsLeast block set i s × FillsUp block (placed set i s) entries
FillsUp block set (Place i s A ∷ entries) = ⊥
FillsUp block set (Place i s B ∷ entries) = ⊥
FillsUp block set (Withdraw i who ∷ entries) = ⊥

-- entries that complete the placements were added
pub record FillsOut (old new : BoardState) : Type 0 where
  pub entries : List Entry
  pub fills : FillsUp (insns_of old.plan) old.spots entries
  pub adds : Adds old entries new

-- no entries complete the placements: placing the lowest missing number again and again, one finds no spot
abbrev pub CannotFill : BoardState → Type 0
CannotFill board = (entries : List Entry) → FillsUp (insns_of board.plan) board.spots entries → ⊥

-- the board itself, where it is of this plan, and otherwise an empty board of the plan with its budget
abbrev pub IsBoardFor : BoardState → Serial → BoardState → Type 0
IsBoardFor board plan new = ((board.plan ≡ plan) × (new ≡ board)) ⊎ ((board.plan ≡ plan → ⊥) × Has plan [] board.budget new)

-- the board is of this plan, and its journal goes on with the placings of what it lacked
abbrev pub KeepsWork : BoardState → Serial → BoardState → Type 0
KeepsWork board plan new =
    (board.plan ≡ plan) × ((entries : List Entry) × FillsUp (insns_of plan) board.spots entries × (new.journal ≡ board.journal ++ entries))

-- the board is of another plan, or could not be completed so, and the journal has the placings of all numbers
abbrev pub StartsAnew : BoardState → Serial → BoardState → Type 0
StartsAnew board plan new = (board.plan ≡ plan → CannotFill board) × FillsUp (insns_of plan) (nothing_of plan) new.journal

-- a complete board of the plan, with the budget of the board given
pub record IsFinished (board : BoardState) (plan : Serial) (new : BoardState) : Type 0 where
  pub plan_is : new.plan ≡ plan
  pub complete : IsComplete (insns_of plan) new.spots
  pub budget : new.budget ≡ board.budget
  pub journal : KeepsWork board plan new ⊎ StartsAnew board plan new
