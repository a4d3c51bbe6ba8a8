-- What is told of a fault of a text of packets (docs/ADOPT.md, "Faults of a text").
use Rattle.std.specs.Prelude.{ℕ, List, ◌++◌, codes, decimal}
use Rattle.c62_adopt_line.specs.FaultName.{line_fault_name}
use Rattle.c62_adopt_cut.specs.declared.fault.TextCause.{TextCause}
use Rattle.c62_adopt_cut.specs.declared.fault.TextCause.TheVariants.{Line, TooManyCycles, TwoBranches, NotDrained}

abbrev pub cause_name : TextCause → List ℕ
cause_name (Line fault) = line_fault_name fault
cause_name TooManyCycles = codes "TooManyCycles"
cause_name TwoBranches = codes "TwoBranches"
cause_name NotDrained = codes "NotDrained"

-- `line L: NAME`
abbrev pub fault_text : ℕ → TextCause → List ℕ
fault_text line cause = codes "line " ++ decimal line ++ codes ": " ++ cause_name cause
