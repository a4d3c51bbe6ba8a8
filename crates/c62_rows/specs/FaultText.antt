-- What is told of a text of packets that makes no rows (docs/EXEC.md, "Faults of a text").
use Rattle.std.specs.Prelude.{ℕ, List, ◌++◌, codes, decimal}
use Rattle.c62_rules.specs.Resource.{rule_name}
use Rattle.c62_adopt_line.specs.FaultName.{line_fault_name}
use Rattle.c62_rows.specs.declared.fault.RowsCause.{RowsCause}
use Rattle.c62_rows.specs.declared.fault.RowsCause.TheVariants.{Line, TooManyTargets, Rule, TwoBranches}
use Rattle.c62_rows.specs.declared.fault.RowsFault.{RowsFault}
use Rattle.c62_rows.specs.declared.fault.RowsFault.TheVariants.{At, From, Memory}

abbrev pub cause_name : RowsCause → List ℕ
cause_name (Line fault) = line_fault_name fault
cause_name TooManyTargets = codes "TooManyTargets"
cause_name (Rule rule) = rule_name rule
cause_name TwoBranches = codes "TwoBranches"

-- `line L: NAME`
abbrev pub fault_text : RowsFault → List ℕ
fault_text (At line cause) = codes "line " ++ decimal line ++ codes ": " ++ cause_name cause
fault_text From = codes "from: UnknownTarget"
fault_text Memory = codes "memory"
