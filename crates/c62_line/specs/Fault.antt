-- What is told of a fault of a text (docs/SERIAL_TEXT.md, "Faults of a line").
use Rattle.std.specs.Prelude.{ℕ, List, ◌++◌, codes, decimal}
use Rattle.c62_insn.specs.Fault.{form_name}
use Rattle.c62_line.specs.declared.fault.Cause.{Cause}
use Rattle.c62_line.specs.declared.fault.Cause.TheVariants.{NotAscii, LineTooLong, BadLabel, DuplicateLabel, UnknownMnemonic, BadUnit, BadOperand, Form, ParallelBar, Directive, UnknownTarget, TooManyInstructions, TooManyBlocks, TextTooLong, Memory}

-- the name of a cause; of a form fault, that fault's
abbrev pub cause_name : Cause → List ℕ
cause_name NotAscii = codes "NotAscii"
cause_name LineTooLong = codes "LineTooLong"
cause_name BadLabel = codes "BadLabel"
cause_name DuplicateLabel = codes "DuplicateLabel"
cause_name UnknownMnemonic = codes "UnknownMnemonic"
cause_name BadUnit = codes "BadUnit"
cause_name BadOperand = codes "BadOperand"
cause_name (Form fault) = form_name fault
cause_name ParallelBar = codes "ParallelBar"
cause_name Directive = codes "Directive"
cause_name UnknownTarget = codes "UnknownTarget"
cause_name TooManyInstructions = codes "TooManyInstructions"
cause_name TooManyBlocks = codes "TooManyBlocks"
cause_name TextTooLong = codes "TextTooLong"
cause_name Memory = codes "Memory"

-- `line L: NAME`
abbrev pub fault_text : ℕ → Cause → List ℕ
fault_text line cause = codes "line " ++ decimal line ++ codes ": " ++ cause_name cause
