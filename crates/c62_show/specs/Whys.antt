-- The table of why each instruction isn't issued a cycle earlier (docs/SHOW.md, "Why not earlier").
use Rattle.std.specs.Prelude.{ℕ, List, [], ◌∷◌, ◌++◌, codes, decimal}
use Rattle.std.specs.Fmt.{signed_decimal}
use Rattle.std.specs.List.{flat_map}
use Rattle.c62_op.specs.Name.{register_name}
use Rattle.c62_rules.specs.declared.resource.Resource.{Resource}
use Rattle.c62_rules.specs.declared.resource.Resource.TheVariants.{OnUnit, CrossPath, DataPath, ReadsOf}
use Rattle.c62_reason.specs.Words.{reason_words}
use Rattle.c62_why.specs.declared.held.Held.{Held as Dependence}
use Rattle.c62_why.specs.declared.taken.Taken.{Taken as Lack}
use Rattle.c62_why.specs.declared.why.Why.{Why}
use Rattle.c62_why.specs.declared.why.Cause.{Cause}
use Rattle.c62_why.specs.declared.why.Shortage.{Shortage}
use Rattle.c62_why.specs.declared.why.Cause.TheVariants.{First, Held, Taken, Nothing}
use Rattle.c62_grid.specs.Words.{right, unit_name}
use Rattle.c62_grid.specs.Paths.{path_name}

-- `after 12 needs 5 reads A5`
unfoldable pub held_words : Dependence → List ℕ
held_words held = codes "after " ++ decimal held.after ++ codes " needs " ++ signed_decimal held.needs ++ codes " " ++ reason_words held.reason

-- `.S1`, `1X`, `T2`, `reads of A5`
abbrev pub resource_words : Resource → List ℕ
resource_words (OnUnit unit) = unit_name unit
resource_words (CrossPath side) = path_name (CrossPath side)
resource_words (DataPath side) = path_name (DataPath side)
resource_words (ReadsOf reg) = codes "reads of " ++ register_name reg

-- `.S1 taken by 17`
unfoldable pub taken_words : Lack → List ℕ
taken_words taken = resource_words taken.resource ++ codes " taken by " ++ decimal taken.by

unfoldable pub more_words : Lack → List ℕ
more_words taken = codes ", " ++ taken_words taken

-- `.L1 taken by 17, 1X taken by 17`
unfoldable pub shortage_words : Shortage → List ℕ
shortage_words shortage = taken_words shortage.first ++ flat_map more_words shortage.more.items

-- In cycle 0 there is no cycle earlier; and where nothing keeps an instruction from it, that is said.
abbrev pub cause_words : Cause → List ℕ
cause_words First = codes "-"
cause_words (Held held) = held_words held
cause_words (Taken shortage) = shortage_words shortage
cause_words Nothing = codes "nothing"

unfoldable pub why_columns : Why → List ℕ
why_columns why = right 6 (decimal why.line) ++ right 6 (decimal why.cycle) ++ right 6 (decimal why.slack)

-- the line of an instruction, its cycle, its slack, and what keeps it from the cycle before
unfoldable pub why_row : Why → List ℕ
why_row why = why_columns why ++ codes "  " ++ cause_words why.cause ++ codes "\n"

abbrev pub heading : List ℕ
heading = codes "  line cycle slack  not a cycle earlier\n"

-- a row for each instruction
unfoldable pub whole_table : List Why → List ℕ
whole_table whys = heading ++ flat_map why_row whys

-- the table, where it is asked for
abbrev pub whys_table : List Why → List ℕ
whys_table [] = []
whys_table (why ∷ whys) = whole_table (why ∷ whys)
