-- The lines of a trace (docs/TRACE.md, "Lines"): one an event.
use Rattle.std.specs.Prelude.{ℕ, ◌+◌, ◌-◌, ◌*◌, nat_le, nat_lt, Bool, ◌&&◌, List, [], ◌++◌, length, replicate, Option, Some, None, codes, decimal, if◌then◌else◌}
use Rattle.std.specs.List.{flat_map, slice_get}
use Rattle.c62_op.specs.declared.register.Reg.{Reg}
use Rattle.c62_op.specs.declared.register.Unit.{Unit as FunctionalUnit}
use Rattle.c62_op.specs.Name.{register_name}
use Rattle.c62_op.specs.Shape.{is_branch}
use Rattle.c62_op.specs.Word.{sum}
use Rattle.c62_insn.specs.declared.effect.Access.{Access as MemoryAccess}
use Rattle.c62_insn.specs.declared.insn.Insn.{Insn}
use Rattle.c62_insn.specs.Insn.{op_of}
use Rattle.c62_insn.specs.Spelling.{spelling}
use Rattle.c62_serial.specs.Memory.{is_good}
use Rattle.c62_listing.specs.Listing.{label_text}
use Rattle.c62_pipe.specs.declared.slot.Due.{Due}
use Rattle.c62_report.specs.Report.{hex, line, address_text}
use Rattle.c62_trace.specs.declared.view.Window.{Window}
use Rattle.c62_trace.specs.declared.view.View.{View}
use Rattle.c62_trace.specs.Event.{Event, Entry, Issued, Skipped, Stored, Landed}

-- ---- columns

abbrev pub blanks : ℕ → List ℕ
blanks count = replicate count 32

-- a text in a column of this width: at its right, or at its left
unfoldable pub right : ℕ → List ℕ → List ℕ
right width text = blanks (width - length text) ++ text

unfoldable pub left : ℕ → List ℕ → List ℕ
left width text = text ++ blanks (width - length text)

-- ---- parts of a line

-- the name of what branches go to by this number
abbrev pub name_of : List (Option (List ℕ)) → ℕ → List ℕ
name_of names number = label_text (slice_get names number)

-- `       26 `
unfoldable pub cycle_text : ℕ → List ℕ
cycle_text cycle = right 9 (decimal cycle) ++ codes " "

-- `line 7      MPY .M1 A5,A6,A7                `: the line of the text and the instruction as it is listed
unfoldable pub insn_text : List (Option (List ℕ)) → ℕ → FunctionalUnit → Insn → List ℕ
insn_text names number unit insn =
    codes "line " ++ left 6 (decimal number) ++ codes " " ++ left 32 (spelling (name_of names) insn unit)

-- ` A5=0000001f`
abbrev pub word_text : (Reg × ℕ) → List ℕ
word_text read = codes " " ++ register_name read.0 ++ codes "=" ++ hex 8 read.1

abbrev pub words_text : List (Reg × ℕ) → List ℕ
words_text reads = flat_map word_text reads

-- ` at 010c`; of an access that faults the whole address, which may lie past the end of memory: ` at 00010002 faults`
abbrev pub access_text : ℕ → Option MemoryAccess → List ℕ
access_text base None = []
access_text base (Some access) =
    codes " at " ++ (if is_good access.address access.size then address_text base access.address
    else hex 8 (sum base access.address) ++ codes " faults")

-- ` goes in 32`: when a branch that runs takes effect
abbrev pub branch_text : ℕ → Insn → List ℕ
branch_text cycle insn = if is_branch (op_of insn) then codes " goes in " ++ decimal (cycle + 6) else []

abbrev pub from_line : ℕ → List ℕ
from_line number = codes " from line " ++ decimal number

abbrev pub stored_text : (base number place size value : ℕ) → List ℕ
stored_text base number place size value =
    codes "stores " ++ address_text base place ++ codes " = " ++ hex (size * 2) value ++ from_line number

-- what lands in a cycle was issued as many cycles before as its delay has
unfoldable pub landed_text : ℕ → Due → List ℕ
landed_text cycle write =
    codes "lands " ++ register_name write.reg ++ codes " = " ++ hex 8 write.word ++ from_line write.line
    ++ codes " issued " ++ decimal (cycle - write.delay)

-- ---- lines

-- what is said of an event of a cycle
unfoldable pub event_text : View → ℕ → Event → List ℕ
event_text view cycle (Issued number unit insn reads access) =
    insn_text view.names.items number unit insn ++ words_text reads ++ access_text view.base access ++ branch_text cycle insn
event_text view cycle (Skipped number unit insn reads) =
    insn_text view.names.items number unit insn ++ codes " skipped" ++ words_text reads
event_text view cycle (Stored number place size value) = stored_text view.base number place size value
event_text view cycle (Landed write) = landed_text cycle write

abbrev pub line_in : ℕ → List ℕ → List ℕ
line_in cycle text = line (cycle_text cycle ++ text)

abbrev pub event_line : View → ℕ → Event → List ℕ
event_line view cycle event = line_in cycle (event_text view cycle event)

-- ---- what is seen

-- so many cycles from one on
abbrev pub is_in : Window → ℕ → Bool
is_in window cycle = nat_le window.from cycle && nat_lt cycle (window.from + window.count)

-- the line of an event, where its cycle is seen
unfoldable pub entry_lines : View → Entry → List ℕ
entry_lines view entry = if is_in view.window entry.0 then event_line view entry.0 entry.1 else []

-- the trace of a run: the lines of its events
abbrev pub trace_lines : View → List Entry → List ℕ
trace_lines view log = flat_map (entry_lines view) log
