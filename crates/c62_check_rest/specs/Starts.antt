-- Where the blocks of a text begin in rows of packets (docs/CHECK.md, "Other blocks").
use Rattle.std.specs.Prelude.{ℕ, ◌==◌, Bool, true, false, List, slice_get, Option, Some, None}
use Rattle.c62_op.specs.declared.operands.Operands.{Operands}
use Rattle.c62_op.specs.declared.operands.Operands.TheVariants.{Block}

-- Of each block the row at which a run enters it, where there is one, and behind the last block that at which it leaves the text.
abbrev pub Starts : Type 0
Starts = List (Option ℕ)

abbrev pub start_in : Option (Option ℕ) → Option ℕ
start_in None = None
start_in (Some start) = start

abbrev pub start_at : Starts → ℕ → Option ℕ
start_at starts number = start_in (slice_get starts number)

-- it is this row
abbrev pub is_row : Option ℕ → ℕ → Bool
is_row None row = false
is_row (Some start) row = start == row

-- a branch with these operands goes to a block that is entered at this row, if it goes to a block
abbrev pub goes_to : Starts → ℕ → Operands → Bool
goes_to starts row (Block number) = is_row (start_at starts number) row
goes_to starts row operands = true
