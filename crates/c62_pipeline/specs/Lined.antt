-- Packets under the lines of the serial text that they are written of (docs/SCHEDULING.md, "Loops of a program").
use Rattle.std.specs.Prelude.{◌≡◌, ℕ, List, All, Contains}
use Rattle.c62_insn.specs.declared.insn.Insn.{Insn}
use Rattle.c62_insn.specs.Insn.{IsSameInsn}
use Rattle.c62_read.specs.declared.block.SerialInsn.{SerialInsn}
use Rattle.c62_read.specs.Block.{Serial}
use Rattle.c62_packet.specs.declared.placed.Placed.{Placed}
use Rattle.c62_flight.specs.Text.{Text}
use Rattle.c62_check_loop.specs.Relined.{AreRelined}

-- in this line one of these is the same instruction, on whichever unit
pub record StandsIn (entries : List SerialInsn) (insn : Insn) (line : ℕ) : Type 0 where
  pub entry : SerialInsn
  pub within : Contains entries entry
  pub same : IsSameInsn entry.insn insn
  pub is : entry.line ≡ line

-- so it is of a block of the program
pub record IsInLine (program : List Serial) (insn : Insn) (line : ℕ) : Type 0 where
  pub block : Serial
  pub within : Contains program block
  pub stands : StandsIn block.insns insn line

-- Where the program has an instruction, its instance stands in the line of one such.
abbrev pub IsLined : List Serial → Placed → Type 0
IsLined program p = (line : ℕ) → IsInLine program p.insn line → IsInLine program p.insn p.line

-- these are the packets of a text, whatever lines stood there, each of their instructions in the line of the program's
pub record AreLined (program : List Serial) (text lined : Text) : Type 0 where
  pub relined : AreRelined text lined
  pub lines : All (λ row. All (IsLined program) row.insns) lined.rows
