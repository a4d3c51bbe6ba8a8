-- What is said of loops in whose run accesses met, and of others (docs/CHECK.md, "A run that is looked at").
use Rattle.std.specs.Prelude.{ℕ, zero, suc, Bool, false, ◌==◌, List, [], ◌++◌, length, slice_get, Option, Some, None, codes, decimal, if◌then◌else◌}
use Rattle.std.specs.Fmt.{digits}
use Rattle.std.specs.List.{flat_map, list_any}
use Rattle.c62_op.specs.Word.{sum}
use Rattle.c62_read.specs.Block.{Serial}
use Rattle.c62_apart.specs.declared.marks.Meeting.{Meeting}
use Rattle.c62_apart.specs.Visit.{is_loop, loop_of}

-- ` 7 and 9`, behind words
abbrev pub pair_words : (words : List ℕ) → (one other : ℕ) → List ℕ
pair_words words one other = (words ++ decimal one) ++ (codes " and " ++ decimal other)

-- ` touch byte 0x104`, of the byte at a place of memory that begins at a base
abbrev pub byte_words : (base byte : ℕ) → List ℕ
byte_words base byte = codes " touch byte 0x" ++ digits 16 false (sum base byte)

-- `loop L: lines 7 and 9 touch byte 0x104 in iterations 1 and 3`
abbrev pub meeting_line : (base : ℕ) → (label : List ℕ) → Meeting → List ℕ
meeting_line base label meeting =
    codes "loop " ++ (label ++ (pair_words (codes ": lines ") meeting.earlier.line meeting.later.line
    ++ (byte_words base meeting.later.byte
    ++ (pair_words (codes " in iterations ") meeting.earlier.visit.iteration meeting.later.visit.iteration ++ codes "\n"))))

-- `loop L: apart held`
abbrev pub held_line : (label : List ℕ) → List ℕ
held_line label = codes "loop " ++ (label ++ codes ": apart held\n")

-- ---- of a loop

-- the meeting is in the run of the loop of this number
abbrev pub is_of : List Serial → ℕ → Meeting → Bool
is_of blocks number meeting = loop_of blocks meeting.later.visit.number == number

abbrev pub mine_line : (base : ℕ) → List Serial → ℕ → (label : List ℕ) → Meeting → List ℕ
mine_line base blocks number label meeting = if is_of blocks number meeting then meeting_line base label meeting else []

-- a line for each meeting; where there is none, the promise held
abbrev pub meeting_lines : (base : ℕ) → List Serial → ℕ → (label : List ℕ) → List Meeting → List ℕ
meeting_lines base blocks number label met =
    if list_any (is_of blocks number) met then flat_map (mine_line base blocks number label) met else held_line label

-- ---- of all loops

abbrev pub label_lines : (base : ℕ) → List Serial → List Meeting → ℕ → Option (List ℕ) → List ℕ
label_lines base blocks met number None = []
label_lines base blocks met number (Some label) = meeting_lines base blocks number label met

abbrev pub block_lines : (base : ℕ) → List Serial → List Meeting → ℕ → Option Serial → List ℕ
block_lines base blocks met number None = []
block_lines base blocks met number (Some block) = label_lines base blocks met number block.label

abbrev pub line_at : (base : ℕ) → List Serial → List Meeting → ℕ → List ℕ
line_at base blocks met number = if is_loop blocks number then block_lines base blocks met number (slice_get blocks number) else []

abbrev pub lines_upto : (base : ℕ) → List Serial → List Meeting → ℕ → List ℕ
lines_upto base blocks met zero = []
lines_upto base blocks met (suc number) = lines_upto base blocks met number ++ line_at base blocks met number

-- of each loop, in the order of the text
abbrev pub lines_of : (base : ℕ) → List Serial → List Meeting → List ℕ
lines_of base blocks met = lines_upto base blocks met (length blocks)
