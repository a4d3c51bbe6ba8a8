-- What `pack` makes of a block is a schedule of it, as `check` asks (docs/CHECK.md, "What same promises").
use Rattle.std.specs.Prelude.{◌≡◌, ℕ, List, Some, slice_get}
use Rattle.c62_read.specs.Block.{Serial}
use Rattle.c62_packet.specs.Packed.{Packed}
use Rattle.c62_check.specs.Schedule.{IsSchedule}
use Rattle.c62_command.specs.declared.command.Packing.{Packing}
use Rattle.c62_answer.specs.Schedule.{AreScheduled}

-- block by block
abbrev pub AreSchedules : List Serial → List Packed → Type 0
AreSchedules program packets =
    (number : ℕ) (block : Serial) (packed : Packed) → slice_get program number ≡ Some block → slice_get packets number ≡ Some packed → IsSchedule block packed

-- so it is of each program that is packed, with whichever words
abbrev pub PacksSchedules : Packing → List Serial → List Packed → Type 0
PacksSchedules packing program packets = AreScheduled packing program packets → AreSchedules program packets
