-- What is told of a loop, as an object (docs/JSON.md, "check --loops").
use Rattle.std.specs.Prelude.{ℕ, List, [], ◌∷◌, ◌++◌, Option, Some, None, codes, decimal, if◌then◌else◌}
use Rattle.std.specs.Fmt.{signed_decimal}
use Rattle.std.specs.List.{flat_map, range_with_len}
use Rattle.json.specs.Token.{Token, key, null, number, string}
use Rattle.c62_json.specs.Document.{array, count, object, text}
use Rattle.c62_op.specs.declared.register.Side.{Side}
use Rattle.c62_op.specs.declared.register.Side.TheVariants.{A, B}
use Rattle.c62_op.specs.Name.{file_letter, register_name}
use Rattle.c62_pair.specs.declared.reg_set.RegSet.{RegSet}
use Rattle.c62_read.specs.declared.block.SerialInsn.{SerialInsn}
use Rattle.c62_loop_match.specs.declared.early.Early.{Early as EarlyRead}
use Rattle.c62_check_loop.specs.Laws.{may_fault}
use Rattle.c62_check_loop.specs.Lines.{number_in}
use Rattle.c62_check_loops.specs.declared.reading.Reading.{Reading}
use Rattle.c62_check_loop.specs.declared.verdict.LoopVerdict.{LoopVerdict}
use Rattle.c62_check_loop.specs.declared.verdict.LoopVerdict.TheVariants.{Same, SameBut, Missing, Extra, Uneven, Counter, Early, Branch, Outside}

-- ---- what a verdict says

abbrev pub word_of : LoopVerdict → List ℕ
word_of (Same trips cycles first last) = codes "same"
word_of (SameBut trips cycles first last but) = codes "same"
word_of (Missing line) = codes "missing"
word_of (Extra line) = codes "extra"
word_of (Uneven line) = codes "uneven"
word_of (Counter line) = codes "counter"
word_of (Early early) = codes "early"
word_of (Branch line) = codes "branch"
word_of Outside = codes "outside"

-- from how many trips on the packets do the same, and in how many cycles a pass of the kernel
abbrev pub trips_of : LoopVerdict → Option ℕ
trips_of (Same trips cycles first last) = Some trips
trips_of (SameBut trips cycles first last but) = Some trips
trips_of _ = None

abbrev pub cycles_of : LoopVerdict → Option ℕ
cycles_of (Same trips cycles first last) = Some cycles
cycles_of (SameBut trips cycles first last but) = Some cycles
cycles_of _ = None

-- the registers for which they don't
abbrev pub but_of : LoopVerdict → Option RegSet
but_of (SameBut trips cycles first last but) = Some but
but_of _ = None

-- the line that is told: of the text, or of the packets where an instruction is extra or a branch
abbrev pub line_of : LoopVerdict → Option ℕ
line_of (Missing line) = Some line
line_of (Extra line) = Some line
line_of (Uneven line) = Some line
line_of (Counter line) = Some line
line_of (Branch line) = Some line
line_of _ = None

abbrev pub early_of : LoopVerdict → Option EarlyRead
early_of (Early early) = Some early
early_of _ = None

-- ---- its members

unfoldable pub number_value : Option ℕ → Token
number_value None = null
number_value (Some n) = count n

-- the name of a register, where it is one of these
abbrev pub name_value : RegSet → Side → ℕ → List Token
name_value but side n = if number_in but side n then text (file_letter side ++ decimal n) ∷ [] else []

-- those of a file
abbrev pub file_values : RegSet → Side → List Token
file_values but side = flat_map (name_value but side) (range_with_len 0 16)

-- the line of a load into one of these
abbrev pub fault_value : RegSet → SerialInsn → List Token
fault_value but entry = if may_fault but entry then count entry.line ∷ [] else []

unfoldable pub register_values : RegSet → List Token
register_values but = file_values but A ++ file_values but B

unfoldable pub registers_member : RegSet → List Token
registers_member but = key (codes "registers") ∷ array (register_values but)

unfoldable pub faults_member : RegSet → List SerialInsn → List Token
faults_member but block = key (codes "faults") ∷ array (flat_map (fault_value but) block)

-- a register, and the line that may read it
unfoldable pub reading_members : Reading → List Token
reading_members reading = key (codes "register") ∷ text (register_name reading.reg) ∷ key (codes "line") ∷ count reading.line ∷ []

abbrev pub reading_object : Reading → List Token
reading_object reading = object (reading_members reading)

unfoldable pub reads_member : List Reading → List Token
reads_member readings = key (codes "reads") ∷ array (flat_map reading_object readings)

-- these registers, the lines of the loads of the block into them, and what of the text may read them
unfoldable pub but_value : Option RegSet → List SerialInsn → List Reading → List Token
but_value None block readings = null ∷ []
but_value (Some but) block readings = object (registers_member but ++ faults_member but block ++ reads_member readings)

-- which lines the instance that comes too early and the other have, by how many cycles it must come behind, and does
unfoldable pub early_lines : EarlyRead → List Token
early_lines early = key (codes "line") ∷ count early.line ∷ key (codes "after") ∷ count early.after ∷ []

unfoldable pub early_cycles : EarlyRead → List Token
early_cycles early =
    key (codes "needs") ∷ number (signed_decimal early.needs) ∷ key (codes "has") ∷ number (signed_decimal early.has) ∷ []

-- and how many iterations apart
unfoldable pub early_distance : EarlyRead → List Token
early_distance early = early_cycles early ++ key (codes "apart") ∷ count early.apart ∷ []

unfoldable pub early_members : EarlyRead → List Token
early_members early = early_lines early ++ early_distance early

unfoldable pub early_value : Option EarlyRead → List Token
early_value None = null ∷ []
early_value (Some early) = object (early_members early)

-- which loop, and what is told of it
unfoldable pub word_members : (label : List ℕ) → LoopVerdict → List Token
word_members label verdict = key (codes "loop") ∷ text label ∷ key (codes "verdict") ∷ string (word_of verdict) ∷ []

unfoldable pub trip_members : LoopVerdict → List Token
trip_members verdict =
    key (codes "trips") ∷ number_value (trips_of verdict) ∷ key (codes "cycles") ∷ number_value (cycles_of verdict) ∷ []

unfoldable pub reason_members : List SerialInsn → LoopVerdict → List Reading → List Token
reason_members block verdict readings =
    (key (codes "but") ∷ but_value (but_of verdict) block readings) ++ (key (codes "line") ∷ number_value (line_of verdict) ∷ [])
    ++ (key (codes "early") ∷ early_value (early_of verdict))

unfoldable pub loop_members : (label : List ℕ) → List SerialInsn → LoopVerdict → List Reading → List Token
loop_members label block verdict readings = word_members label verdict ++ trip_members verdict ++ reason_members block verdict readings

-- the object of the loop of a label, which has this block, where so much may read what it leaves otherwise
abbrev pub loop_object : (label : List ℕ) → List SerialInsn → LoopVerdict → List Reading → List Token
loop_object label block verdict readings = object (loop_members label block verdict readings)
