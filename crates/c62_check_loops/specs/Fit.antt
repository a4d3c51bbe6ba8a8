-- Whether the rows of loops and other blocks stand one behind the other (docs/CHECK.md, "All loops of a text").
use Rattle.std.specs.Prelude.{ℕ, ◌-◌, ◌+◌, ◌==◌, ◌&&◌, ◌||◌, not, Bool, true, false, List, [], ◌∷◌, slice_get, Option, Some, None, is_none, if◌then◌else◌}
use Rattle.c62_read.specs.Block.{Serial}
use Rattle.c62_check_loop.specs.declared.verdict.LoopVerdict.{LoopVerdict}
use Rattle.c62_check_loop.specs.declared.verdict.LoopVerdict.TheVariants.{Same, SameBut}
use Rattle.c62_check_rest.specs.Starts.{Starts, start_at, is_row}
use Rattle.c62_check_loops.specs.declared.verdict.BlockVerdict.{BlockVerdict}
use Rattle.c62_check_loops.specs.declared.verdict.BlockVerdict.TheVariants.{Loop, Within, Rest}
use Rattle.c62_check_loops.specs.Covered.{is_straight, has_below, leads_to_loop, follows_loop}

-- the block above leads to the loop
abbrev pub has_above : List Serial → ℕ → Bool
has_above blocks number = if number == 0 then false else is_straight (slice_get blocks (number - 1))

-- the first block of a loop's region, and the block behind it
abbrev pub first_block : List Serial → ℕ → ℕ
first_block blocks number = if has_above blocks number then number - 1 else number

abbrev pub block_behind : List Serial → ℕ → ℕ
block_behind blocks number = if has_below blocks number then number + 2 else number + 1

-- a loop is the first block of its region, or isn't entered by itself
abbrev pub is_alone : List Serial → Starts → ℕ → Bool
is_alone blocks starts number = (first_block blocks number == number) || is_none (start_at starts number)

-- the region is entered at the first row, and the block behind it at the last
abbrev pub stands_there : List Serial → Starts → ℕ → (first last : ℕ) → Bool
stands_there blocks starts number first last =
    is_row (start_at starts (first_block blocks number)) first && is_row (start_at starts (block_behind blocks number)) last

abbrev pub passes : Option ℕ → Option ℕ → Bool
passes None next = false
passes (Some start) next = is_row next start

-- a block is entered where the next one is
abbrev pub is_passed : Starts → ℕ → Bool
is_passed starts number = passes (start_at starts number) (start_at starts (number + 1))

-- What leads to a loop is entered with it. What stands behind one isn't entered by itself. Any other has nothing in it.
abbrev pub is_within : List Serial → List (Option LoopVerdict) → Starts → ℕ → Bool
is_within blocks told starts number =
    if leads_to_loop blocks told number then true
    else if follows_loop blocks told number then is_none (start_at starts number) else is_passed starts number

-- the rows of a block go from its start to that of what stands behind it
abbrev pub is_fit : List Serial → List (Option LoopVerdict) → Starts → ℕ → BlockVerdict → Bool
is_fit blocks told starts number (Loop (Same trips cycles first last)) =
    is_alone blocks starts number && stands_there blocks starts number first last
is_fit blocks told starts number (Loop (SameBut trips cycles first last but)) =
    is_alone blocks starts number && stands_there blocks starts number first last
is_fit blocks told starts number (Loop verdict) = false
is_fit blocks told starts number Within = is_within blocks told starts number
is_fit blocks told starts number (Rest verdict) = true

-- so do those of the blocks from this number on
abbrev pub are_fit : List Serial → List (Option LoopVerdict) → Starts → ℕ → List BlockVerdict → Bool
are_fit blocks told starts number [] = true
are_fit blocks told starts number (verdict ∷ verdicts) =
    is_fit blocks told starts number verdict && are_fit blocks told starts (number + 1) verdicts

-- the first of so many blocks is entered at the first row, and the text is left behind the last of so many
abbrev pub are_all_rows : Starts → (blocks rows : ℕ) → Bool
are_all_rows starts blocks rows = is_row (start_at starts 0) 0 && is_row (start_at starts blocks) rows
