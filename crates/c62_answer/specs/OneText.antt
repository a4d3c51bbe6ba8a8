-- Packed by turns, a text has one listing (docs/SCHEDULING.md, "Turns" and "Finishing").
use Rattle.std.specs.Prelude.{◌≡◌, true, false, ℕ, List}
use Rattle.c62_read.specs.Block.{Serial}
use Rattle.c62_board.specs.State.{BoardState}
use Rattle.c62_packet.specs.Packed.{Packed}
use Rattle.c62_command.specs.declared.command.Packing.{Packing}
use Rattle.c62_answer.specs.Schedule.{IsMade, AreScheduled}
use Rattle.c62_answer.specs.Run.{IsPackedText}
use Rattle.c62_op.specs.declared.set.InstructionSet.{InstructionSet}

-- the same board, whatever room there is for more entries
abbrev pub IsSameBoard : BoardState → BoardState → Type 0
IsSameBoard one other = one ≡ record other { room = one.room }

-- by turns a block has one board
abbrev pub HasOneBoard : Packing → Serial → Type 0
HasOneBoard packing block =
    packing.turns ≡ true → (one other : BoardState) → IsMade packing block one → IsMade packing block other → IsSameBoard one other

-- by turns the blocks of a program have one list of packets, unless the shortest schedules are asked for
abbrev pub HaveOnePacking : Packing → List Serial → Type 0
HaveOnePacking packing program =
    packing.turns ≡ true → packing.shortest ≡ false → (one other : List Packed) → AreScheduled packing program one → AreScheduled packing program other → one ≡ other

-- by turns a text has one listing, unless the shortest schedules are asked for
abbrev pub HasOneText : InstructionSet → Packing → List ℕ → Type 0
HasOneText isa packing text =
    packing.turns ≡ true → packing.shortest ≡ false → (one other : List ℕ) → IsPackedText isa packing text one → IsPackedText isa packing text other
    → one ≡ other
