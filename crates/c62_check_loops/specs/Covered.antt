-- Which blocks of a text are told with a loop (docs/CHECK.md, "The command").
use Rattle.std.specs.Prelude.{ℕ, ◌-◌, ◌+◌, ◌==◌, ◌&&◌, ◌||◌, not, Bool, false, List, length, slice_get, Option, Some, None, is_some, is_none, if◌then◌else◌}
use Rattle.c62_read.specs.Block.{Serial}
use Rattle.c62_check_loop.specs.declared.verdict.LoopVerdict.{LoopVerdict}
use Rattle.c62_check_loop.specs.Region.{counter_of, is_apart_below, is_branch_entry, last_of}

-- the block of this number is a loop under a counter
abbrev pub is_loop : List Serial → ℕ → Bool
is_loop blocks number = is_some (counter_of blocks number)

abbrev pub is_straight : Option Serial → Bool
is_straight None = false
is_straight (Some block) = not (is_branch_entry (last_of block.insns))

-- straight, and without a label
abbrev pub is_bare : Option Serial → Bool
is_bare None = false
is_bare (Some block) = is_none block.label && not (is_branch_entry (last_of block.insns))

abbrev pub is_empty : Option Serial → Bool
is_empty None = false
is_empty (Some block) = length block.insns == 0

-- ---- what is told of blocks as loops

abbrev pub loop_in : Option (Option LoopVerdict) → Option LoopVerdict
loop_in None = None
loop_in (Some verdict) = verdict

-- the block of this number is told as a loop
abbrev pub is_told : List (Option LoopVerdict) → ℕ → Bool
is_told told number = is_some (loop_in (slice_get told number))

-- it stands before a loop that is told, and belongs to it
abbrev pub leads_to_loop : List Serial → List (Option LoopVerdict) → ℕ → Bool
leads_to_loop blocks told number = is_told told (number + 1) && is_straight (slice_get blocks number)

-- the block below that of this number belongs to it, where that is a loop: it has neither label nor branch, leads to no other loop, and
-- doesn't touch the counter
abbrev pub has_below : List Serial → ℕ → Bool
has_below blocks number = is_bare (slice_get blocks (number + 1)) && not (is_apart_below blocks number)

-- it stands behind one, and belongs to it
abbrev pub follows_loop : List Serial → List (Option LoopVerdict) → ℕ → Bool
follows_loop blocks told number = if number == 0 then false else is_told told (number - 1) && has_below blocks (number - 1)

-- What stands between two loops leads to the second, and belongs to that alone, if it is told.
abbrev pub belongs_to_loop : List Serial → List (Option LoopVerdict) → ℕ → Bool
belongs_to_loop blocks told number = leads_to_loop blocks told number || follows_loop blocks told number

-- it belongs to a loop that is told, or has nothing in it
abbrev pub is_told_with_loop : List Serial → List (Option LoopVerdict) → ℕ → Bool
is_told_with_loop blocks told number = belongs_to_loop blocks told number || is_empty (slice_get blocks number)
