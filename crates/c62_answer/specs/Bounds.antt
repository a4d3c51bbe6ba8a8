-- What the heads of a picture tell of shorter schedules (docs/SHOW.md, "The head").
use Rattle.std.specs.Prelude.{List, [], ◌∷◌}
use Rattle.c62_read.specs.Block.{Serial}
use Rattle.c62_packet.specs.Packed.{Packed, IsPacketBlock}
use Rattle.c62_show.specs.declared.shown.Shown.{Shown}
use Rattle.c62_show.specs.Laws.{IsNoShorter}
use Rattle.c62_check.specs.Schedule.{IsSchedule}

-- No packets that `check` calls the same as the block take fewer cycles than the bound, nor than what is shown where the head says
-- that no schedule is shorter.
abbrev pub IsBounded : Serial → Shown → Type 0
IsBounded block shown = (packed : Packed) → IsPacketBlock packed → IsSchedule block packed → IsNoShorter shown packed.cycles

-- so it is of all blocks
abbrev pub AreBounded : List Serial → List Shown → Type 0
AreBounded (block ∷ program) (shown ∷ rest) = IsBounded block shown × AreBounded program rest
AreBounded [] [] = Unit {0}
AreBounded _ _ = ⊥
