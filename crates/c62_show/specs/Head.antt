-- What stands above the rows of a block (docs/SHOW.md, "The head" and "The path and the units").
use Rattle.std.specs.Prelude.{ℕ, ◌-◌, ◌==◌, nat_le, nat_lt, Bool, List, [], ◌++◌, length, slice_get, unwrap_or, codes, decimal, Option, Some, None, if◌then◌else◌}
use Rattle.std.specs.List.{flat_map}
use Rattle.std.specs.Fmt.{signed_decimal}
use Rattle.c62_op.specs.Name.{register_name}
use Rattle.c62_op.specs.declared.register.Side.{Side}
use Rattle.c62_op.specs.declared.register.Letter.{Letter}
use Rattle.c62_op.specs.declared.register.Letter.TheVariants.{L, S, M, D}
use Rattle.c62_insn.specs.Spelling.{side_digit}
use Rattle.c62_bound.specs.declared.need.Kind.{Kind}
use Rattle.c62_bound.specs.declared.need.Kind.TheVariants.{L as OnL, S as OnS, M as OnM, D as OnD, Ls, Lsd, Path}
use Rattle.c62_bound.specs.declared.need.Need.{Need}
use Rattle.c62_bound.specs.Bound.{width, cycles_of}
use Rattle.c62_reason.specs.declared.reason.Reason.{Reason}
use Rattle.c62_reason.specs.declared.reason.Reason.TheVariants.{Reads, Overwrites, Writes, AccessesMemory, StoresMemory, Branches}
use Rattle.c62_show.specs.declared.limits.Limits.{Limits}
use Rattle.c62_show.specs.declared.limits.Step.{Step}
use Rattle.c62_grid.specs.Words.{left, right, counted, unit_name}

-- ---- the head

-- the label of a block, or `block 4`
abbrev pub name : ℕ → Option (List ℕ) → List ℕ
name number None = codes "block " ++ decimal number
name number (Some label) = label

abbrev pub none_is_shorter : List ℕ
none_is_shorter = codes "no schedule is shorter"

unfoldable pub over_bound : ℕ → List ℕ
over_bound least = codes " over the bound of " ++ decimal least

-- whether a block of so many cycles could be shorter, by how many cycles each schedule takes at least: `15 over the bound of 80`
abbrev pub verdict_by : ℕ → ℕ → List ℕ
verdict_by cycles least =
    if cycles == least then none_is_shorter
    else decimal (cycles - least) ++ over_bound least

-- the same, where that is known
abbrev pub verdict : ℕ → Option ℕ → List ℕ
verdict cycles None = codes "the bound isn't known"
verdict cycles (Some least) = verdict_by cycles least

-- `: 5 instructions in 7 cycles; no schedule is shorter`
unfoldable pub size : ℕ → ℕ → Option ℕ → List ℕ
size count cycles least =
    codes ": " ++ counted count (codes "instruction") ++ codes " in " ++ counted cycles (codes "cycle") ++ codes "; " ++ verdict cycles least ++ codes "\n"

-- ---- why each schedule takes so many cycles

unfoldable pub fact : List ℕ → ℕ → List ℕ → List ℕ
fact word cycles why = codes "   " ++ left 5 word ++ right 5 (decimal cycles) ++ codes ": " ++ why

abbrev pub lines_word : List ℕ → List ℕ
lines_word path = if length path == 1 then codes "line" else codes "lines"

-- `lines 12 13 14`
unfoldable pub path_words : List ℕ → List ℕ
path_words path = lines_word path ++ flat_map (λ number. codes " " ++ decimal number) path

-- what two instructions share, for which the second waits: a register, memory, or that it is the branch
abbrev pub shared_words : Reason → List ℕ
shared_words (Reads reg) = register_name reg
shared_words (Overwrites reg) = register_name reg
shared_words (Writes reg) = register_name reg
shared_words AccessesMemory = codes "mem"
shared_words StoresMemory = codes "mem"
shared_words Branches = codes "branch"

-- ` -A5:5- 13`: for A5 the next line comes five cycles behind
unfoldable pub step_words : Step → List ℕ
step_words step = codes " -" ++ shared_words step.reason ++ codes ":" ++ signed_decimal step.cycles ++ codes "- " ++ decimal step.line

-- a line of a path by its place, or 0 where there is none
abbrev pub line_at : List ℕ → ℕ → ℕ
line_at path place = unwrap_or (slice_get path place) 0

-- `42 lines from 25 to 254`
unfoldable pub path_ends : List ℕ → List ℕ
path_ends path =
    decimal (length path) ++ codes " lines from " ++ decimal (line_at path 0) ++ codes " to " ++ decimal (line_at path (length path - 1))

-- `lines 12 -A5:5- 13 -A6:1- 14`
unfoldable pub bound_words : List ℕ → List Step → List ℕ
bound_words path steps = lines_word path ++ codes " " ++ decimal (line_at path 0) ++ flat_map step_words steps

-- a text, where it finds room in 98 columns, and else another
abbrev pub narrow_or : List ℕ → List ℕ → List ℕ
narrow_or text other = if nat_le (length text) 98 then text else other

-- each line of the path, where they find room
unfoldable pub listed_fact : ℕ → List ℕ → List ℕ
listed_fact cycles path = narrow_or (fact (codes "path") cycles (path_words path)) (fact (codes "path") cycles (path_ends path))

-- the same with what binds each line to the one before it, where that finds room
unfoldable pub path_fact : ℕ → List ℕ → List Step → List ℕ
path_fact cycles path steps = narrow_or (fact (codes "path") cycles (bound_words path steps)) (listed_fact cycles path)

abbrev pub path_line : Limits → List ℕ
path_line limits = path_fact limits.path_length limits.path.items limits.steps.items ++ codes "\n"

-- the unit of this letter on a side
abbrev pub unit_on : Letter → Side → List ℕ
unit_on letter side = unit_name record { letter = letter; side = side }

-- what instructions wait for: `.S1`, `.L1 .S1`, `.L1 .S1 .D1`, or the data path `T1`
abbrev pub room_name : Kind → Side → List ℕ
room_name OnL side = unit_on L side
room_name OnS side = unit_on S side
room_name OnM side = unit_on M side
room_name OnD side = unit_on D side
room_name Ls side = unit_on L side ++ codes " " ++ unit_on S side
room_name Lsd side = unit_on L side ++ codes " " ++ unit_on S side ++ codes " " ++ unit_on D side
room_name Path side = codes "T" ++ side_digit side

-- `2 on .S1, and 2 behind the last`
unfoldable pub need_words : Need → List ℕ
need_words need = decimal need.count ++ codes " on " ++ room_name need.kind need.side ++ codes ", and " ++ decimal need.tail ++ codes " behind the last"

-- A need has more instructions than find room in one cycle. The greatest need has no fewer cycles than the path.
abbrev pub is_told : Need → Bool
is_told need = nat_lt (width need.kind) need.count

abbrev pub units_line : Option Need → List ℕ
units_line None = []
units_line (Some need) =
    if is_told need then fact (codes "units") (cycles_of need) (need_words need) ++ codes "\n"
    else []
