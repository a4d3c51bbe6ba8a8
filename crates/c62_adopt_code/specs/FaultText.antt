-- What is told of a text that has no code (docs/ADOPT.md, "Faults of a text").
use Rattle.std.specs.Prelude.{ℕ, List, ◌++◌, codes, decimal}
use Rattle.c62_adopt_code.specs.declared.fault.CodeCause.{CodeCause}
use Rattle.c62_adopt_code.specs.declared.fault.CodeCause.TheVariants.{Directive, OtherSection, Padding}
use Rattle.c62_adopt_code.specs.declared.fault.CodeFault.{CodeFault}
use Rattle.c62_adopt_code.specs.declared.fault.CodeFault.TheVariants.{At, Memory}

abbrev pub code_cause_name : CodeCause → List ℕ
code_cause_name Directive = codes "Directive"
code_cause_name OtherSection = codes "OtherSection"
code_cause_name Padding = codes "Padding"

-- `line L: NAME`
abbrev pub code_fault_text : CodeFault → List ℕ
code_fault_text (At line cause) = codes "line " ++ decimal line ++ codes ": " ++ code_cause_name cause
code_fault_text Memory = codes "memory"
