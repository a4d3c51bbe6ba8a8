-- The table of a run with everything in flight (docs/REPORT.md, "The profile").
use Rattle.std.specs.Prelude.{◌≡◌, ℕ, ◌+◌, ◌-◌, nat_lt, Bool, ◌||◌, List, [], ◌∷◌, ◌++◌, length, sum_by, take, drop, decimal, codes, Option, Some, None, is_some, if◌then◌else◌}
use Rattle.std.specs.List.{flat_map}
use Rattle.std.specs.Option.{option_copied}
use Rattle.c62_read.specs.Program.{Name}
use Rattle.c62_serial.specs.State.{Machine}
use Rattle.c62_flight.specs.declared.stop.Stop.{Stop}
use Rattle.c62_flight.specs.Text.{Text}
use Rattle.c62_rows.specs.Laws.{RiseTo}
use Rattle.c62_exec.specs.declared.tally.Count.{Count}
use Rattle.c62_exec.specs.Counts.{CountsFlight}
use Rattle.c62_profile.specs.declared.blocks.Block.{Block as BlockRead}
use Rattle.c62_profile.specs.Table.{name, percent, thousandths}

-- ---- blocks of rows

-- the rows from one to the one above another, below the label of the first, if it has one
pub record Block : Type 0 where
  pub label : Option Name
  pub first : ℕ
  pub behind : ℕ

-- of so many rows those from one on: up to the row of the next label, and from each label's row to that of the next
abbrev pub blocks_from : ℕ → Option Name → ℕ → List (Name × ℕ) → List Block
blocks_from rows label first [] = record { label = label; first = first; behind = rows } ∷ []
blocks_from rows label first (next ∷ labels) =
    record { label = label; first = first; behind = next.1 } ∷ blocks_from rows (Some next.0) next.1 labels

-- what is above the first label is told where it has a row
abbrev pub is_told : Block → Bool
is_told block = is_some block.label || nat_lt block.first block.behind

-- how many rows have counts of their own; those behind the last have one more together
abbrev pub rows_in : List Count → ℕ
rows_in counts = length counts - 1

abbrev pub flight_blocks : List (Name × ℕ) → List Count → List Block
flight_blocks labels counts = blocks_from (rows_in counts) None 0 labels

abbrev pub block_of : BlockRead → Block
block_of block = record { label = option_copied block.label; first = block.first; behind = block.behind }

-- ---- what they took

abbrev pub counts_in : List Count → Block → List Count
counts_in counts block = take (block.behind - block.first) (drop block.first counts)

-- how often the first of these rows was begun
abbrev pub runs_of : List Count → ℕ
runs_of [] = 0
runs_of (count ∷ counts) = count.runs

-- and how many cycles were theirs
abbrev pub cycles_of : List Count → ℕ
cycles_of counts = sum_by (λ count. count.cycles) counts

-- ---- the table

-- ` 11 11 55.0%`: how often a block was begun, its cycles, and their share of the whole
unfoldable pub told_counts : List Count → ℕ → List ℕ
told_counts counts whole =
    codes " " ++ decimal (runs_of counts) ++ codes " " ++ decimal (cycles_of counts) ++ codes " "
    ++ percent (thousandths (cycles_of counts) whole) ++ codes "\n"

-- a block is named by its label, or by its first row
abbrev pub block_row : List Count → ℕ → Block → List ℕ
block_row counts whole block = name block.first block.label ++ told_counts (counts_in counts block) whole

abbrev pub told_row : List Count → ℕ → Block → List ℕ
told_row counts whole block = if is_told block then block_row counts whole block else []

abbrev pub end_row : List Count → ℕ → List ℕ
end_row counts whole = codes "end" ++ told_counts (drop (rows_in counts) counts) whole

-- the table of a run of so many cycles: a row a block, in the order of the text, and one for all that is behind the last row
unfoldable pub flight_table : List (Name × ℕ) → List Count → ℕ → List ℕ
flight_table labels counts whole =
    codes "block runs cycles share\n" ++ flat_map (told_row counts whole) (flight_blocks labels counts) ++ end_row counts whole

-- ---- the law

-- the cycles of all rows of the table
abbrev pub cycles_told : List (Name × ℕ) → List Count → ℕ
cycles_told labels counts = sum_by (λ block. cycles_of (counts_in counts block)) (flight_blocks labels counts) + cycles_of (drop (rows_in counts) counts)

-- they add up to those of the report, where labels stand in the order of the text
abbrev pub FlightAddsUp : Text → ℕ → ℕ → Machine → Stop → ℕ → Machine → List Count → Type 0
FlightAddsUp text first limit opening stop cycles final counts =
    CountsFlight text first limit opening stop cycles final counts → (labels : List (Name × ℕ)) → RiseTo (length text.rows) 0 labels
    → cycles_told labels counts ≡ cycles
