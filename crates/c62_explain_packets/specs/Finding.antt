-- What is wrong with a line of packets, in the words in which its text is refused (docs/FAULTS.md, "Packets").
use Rattle.std.specs.Prelude.{◌≡◌, ℕ, List, ◌++◌, codes, decimal}
use Rattle.c62_line.specs.Fault.{cause_name}
use Rattle.c62_packet.specs.FaultText.{rule_name}
use Rattle.c62_adopt_line.specs.declared.fault.LineFault.{LineFault}
use Rattle.c62_adopt_line.specs.declared.fault.LineFault.TheVariants as line
use Rattle.c62_adopt_cut.specs.declared.fault.TextCause.{TextCause}
use Rattle.c62_adopt_cut.specs.declared.fault.TextCause.TheVariants as text
use Rattle.c62_adopt_code.specs.FaultText.{code_cause_name}
use Rattle.c62_adopt.specs.declared.fault.AdoptFault.{AdoptFault}
use Rattle.c62_adopt.specs.declared.fault.AdoptFault.TheVariants as adopt
use Rattle.c62_rows.specs.declared.fault.RowsCause.{RowsCause}
use Rattle.c62_rows.specs.declared.fault.RowsCause.TheVariants as row
use Rattle.c62_rows.specs.declared.fault.RowsFault.{RowsFault}
use Rattle.c62_rows.specs.declared.fault.RowsFault.TheVariants as rows
use Rattle.c62_explain_packets.specs.declared.finding.What.{What}
use Rattle.c62_explain_packets.specs.declared.finding.What.TheVariants.{Read, UnitWanted, TooManyCycles, TwoBranches, BranchBeside, TooManyTargets, NotDrained, Rule, Code, Shape}
use Rattle.c62_explain_packets.specs.declared.finding.Finding.{Finding as Found}

abbrev pub what_name : What → List ℕ
what_name (Read cause) = cause_name cause
what_name UnitWanted = codes "UnitWanted"
what_name TooManyCycles = codes "TooManyCycles"
what_name TwoBranches = codes "TwoBranches"
what_name BranchBeside = codes "TwoBranches"
what_name TooManyTargets = codes "TooManyTargets"
what_name NotDrained = codes "NotDrained"
what_name (Rule rule) = rule_name rule
what_name (Code cause) = code_cause_name cause
what_name Shape = codes "Shape"

abbrev pub found_at : ℕ → What → Found
found_at number what = record { line = number; what = what }

-- this is what is told of the text: the line and the name
abbrev pub IsToldAs : List ℕ → Found → Type 0
IsToldAs told found = told ≡ codes "line " ++ decimal found.line ++ codes ": " ++ what_name found.what

-- ---- memory ran out

abbrev pub IsShortLine : LineFault → Type 0
IsShortLine line.Memory = Unit {0}
IsShortLine _ = ⊥

abbrev pub IsShortText : TextCause → Type 0
IsShortText (text.Line fault) = IsShortLine fault
IsShortText _ = ⊥

abbrev pub IsShort : AdoptFault → Type 0
IsShort (adopt.Text fault) = IsShortText fault.cause
IsShort adopt.Memory = Unit {0}
IsShort _ = ⊥

abbrev pub IsShortRow : RowsCause → Type 0
IsShortRow (row.Line fault) = IsShortLine fault
IsShortRow _ = ⊥

-- or the label that a run is to begin with isn't there
abbrev pub IsShortRows : RowsFault → Type 0
IsShortRows (rows.At number cause) = IsShortRow cause
IsShortRows _ = Unit {0}
