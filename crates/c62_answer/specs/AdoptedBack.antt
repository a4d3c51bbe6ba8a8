-- What `pack` writes is adopted as itself (docs/ADOPT.md, "What holds").
use Rattle.std.specs.Prelude.{ℕ, Bool, List}
use Rattle.c62_command.specs.declared.command.Packing.{Packing}
use Rattle.c62_answer.specs.Run.{IsPackedText, IsAdoptedText}
use Rattle.c62_op.specs.declared.set.InstructionSet.{InstructionSet}

-- to the byte, and without a cycle more
abbrev pub IsAdoptedBack : InstructionSet → Packing → Bool → List ℕ → List ℕ → Type 0
IsAdoptedBack isa packing drain text answer = IsPackedText isa packing text answer → IsAdoptedText isa drain 0 answer answer
