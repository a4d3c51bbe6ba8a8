-- What is told of a block of packets and a serial block.
use Rattle.std.specs.Prelude.{◌≡◌, ◌↔◌, ◌<◌, Bool, true, false, List, length, IsTrue}
use Rattle.c62_read.specs.Block.{Serial, is_block}
use Rattle.c62_packet.specs.declared.placed.Placed.{Placed}
use Rattle.c62_packet.specs.Packed.{Packed, IsPacketBlock}
use Rattle.c62_depend.specs.Plan.{insns_of}
use Rattle.c62_check.specs.declared.early.Early.{Early}
use Rattle.c62_check.specs.declared.verdict.Verdict.{Verdict as Answer}
use Rattle.c62_check.specs.declared.verdict.Verdict.TheVariants.{Same, Missing, Extra, TooEarly}
use Rattle.c62_check.specs.Matched.{AreNumbered, IsMissing, IsExtra}
use Rattle.c62_check.specs.Early.{AreEarly}
use Rattle.c62_check.specs.Schedule.{IsNumbering, IsSchedule}

-- the packets hold the block's instructions, but these come too early
pub record ComeEarly (block : Serial) (packed : Packed) (early : List Early) : Type 0 where
  pub numbered : List Placed
  pub are_numbered : AreNumbered block.insns packed.placed numbered
  pub are_early : AreEarly (insns_of block) numbered early
  pub some : 0 < length early

-- the packets are a schedule of the block, or what stands against it
abbrev pub IsVerdict : Serial → Packed → Answer → Type 0
IsVerdict block packed Same = IsSchedule block packed
IsVerdict block packed (Missing line) = IsMissing block.insns packed.placed line
IsVerdict block packed (Extra line) = IsExtra block.insns packed.placed line
IsVerdict block packed (TooEarly early) = ComeEarly block packed early.items

abbrev pub is_same : Answer → Bool
is_same Same = true
is_same _ = false

-- ---- laws

-- it is `Same` exactly where some numbering of the packets' instructions keeps all bounds
abbrev pub IsExact : Serial → Packed → Answer → Type 0
IsExact block packed answer =
    IsTrue (is_block block.insns) → IsPacketBlock packed → IsVerdict block packed answer
    → (answer ≡ Same) ↔ ((numbered : List Placed) × IsNumbering block.insns packed.placed numbered)

-- the same is told: a line, or one for one what comes too early
abbrev pub IsSameVerdict : Answer → Answer → Type 0
IsSameVerdict Same Same = Unit {0}
IsSameVerdict (Missing line) (Missing other) = line ≡ other
IsSameVerdict (Extra line) (Extra other) = line ≡ other
IsSameVerdict (TooEarly early) (TooEarly other) = early.items ≡ other.items
IsSameVerdict _ _ = ⊥

-- so it is of any two verdicts on a block
abbrev pub HasOneVerdict : Serial → Packed → Type 0
HasOneVerdict block packed =
    IsTrue (is_block block.insns) → IsPacketBlock packed → (one other : Answer) → IsVerdict block packed one → IsVerdict block packed other → IsSameVerdict one other
