-- Where in a line of packets a fault is found (docs/FAULTS.md, "Packets").
use Rattle.std.specs.Prelude.{ℕ, ◌-◌, List, ◌++◌, length, map, take, Option, Some, None}
use Rattle.c62_insn.specs.declared.fault.FormFault.TheVariants.{NoUnit}
use Rattle.c62_line.specs.declared.fault.Cause.{Cause}
use Rattle.c62_line.specs.declared.fault.Cause.TheVariants.{ParallelBar, Form, TooManyInstructions, UnknownTarget}
use Rattle.c62_place.specs.declared.place.Place.{Place}
use Rattle.c62_place.specs.Place.{IsPlace}
use Rattle.std.specs.Option.{option_or}
use Rattle.c62_adopt_line.specs.Line.{behind_bars}
use Rattle.c62_adopt_spell.specs.Local.{behind_local}
use Rattle.c62_explain.specs.Picture.{blank_byte}
use Rattle.c62_explain_packets.specs.declared.finding.What.{What}
use Rattle.c62_explain_packets.specs.declared.finding.What.TheVariants.{Read, UnitWanted, TooManyCycles, TwoBranches, BranchBeside, TooManyTargets, NotDrained, Rule, Code, Shape}
use Rattle.c62_op.specs.declared.set.InstructionSet.{InstructionSet}

-- the fault of serial text that is found at the same token
abbrev pub serial_cause : What → Cause
serial_cause (Read cause) = cause
serial_cause UnitWanted = Form NoUnit
serial_cause (Rule rule) = Form NoUnit
serial_cause TooManyCycles = TooManyInstructions
serial_cause TwoBranches = TooManyInstructions
serial_cause BranchBeside = TooManyInstructions
serial_cause TooManyTargets = UnknownTarget
serial_cause NotDrained = TooManyInstructions
serial_cause (Code cause) = TooManyInstructions
serial_cause Shape = TooManyInstructions

abbrev pub blanked_front : List ℕ → Option (List ℕ) → List ℕ
blanked_front line None = line
blanked_front line (Some rest) = map blank_byte (take (length line - length rest) line) ++ rest

-- what stands behind the bars, or behind the local label
abbrev pub behind_front : List ℕ → Option (List ℕ)
behind_front line = option_or (behind_bars line) (behind_local line)

-- the line with blanks in the place of its bars or of its local label, as serial text has it
abbrev pub without_front : List ℕ → List ℕ
without_front line = blanked_front line (behind_front line)

-- bars themselves are looked for in the line as it stands
abbrev pub searched_line : What → List ℕ → List ℕ
searched_line (Read ParallelBar) line = line
searched_line what line = without_front line

-- The fault is found where that of serial text is found.
abbrev pub IsFoundAt : InstructionSet → What → List ℕ → Place → Type 0
IsFoundAt isa what line place = IsPlace isa (serial_cause what) (searched_line what line) place
