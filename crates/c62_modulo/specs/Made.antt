-- Software pipelined packets that are made of a loop (docs/SCHEDULING.md, "Pipelined loops").
use Rattle.std.specs.Prelude.{◌≡◌, ℕ, ◌+◌, ◌<◌, ◌≤◌, Bool, List, length, All}
use Rattle.c62_op.specs.declared.register.Reg.{Reg}
use Rattle.c62_insn.specs.declared.insn.Insn.{Insn}
use Rattle.c62_rules.specs.PacketRules.{KeepsPacketRules}
use Rattle.c62_read.specs.declared.block.SerialInsn.{SerialInsn}
use Rattle.c62_packet.specs.Packed.{issued}
use Rattle.c62_flight.specs.Text.{Row}
use Rattle.c62_rows.specs.Rows.{IsRow, row_read}
use Rattle.c62_loop.specs.Loop.{Region, Pipelined, interval, last_row}
use Rattle.c62_loop_match.specs.Parts.{loop_of}
use Rattle.c62_loop_match.specs.declared.promise.Promise.{Promise}
use Rattle.c62_loop_match.specs.Promise.{promises}
use Rattle.c62_loop_match.specs.Decide.{Decided}
use Rattle.c62_loop_bound.specs.Least.{body_of, IsAsked}
use Rattle.c62_modulo.specs.declared.made.Made.{Made}
use Rattle.c62_modulo.specs.declared.made.Shortness.{Shortness}
use Rattle.c62_modulo.specs.declared.made.Shortness.TheVariants.{Shortest, Over}

-- The packet is a row as a text of packets has them, and keeps the packet rules by itself.
pub record IsLawful (packet : Row) : Type 0 where
  pub row : IsRow packet
  pub rules : KeepsPacketRules (issued packet.insns)

-- The rows are those of prolog, kernel and epilog, and no others.
pub record StandsAlone (loop : Pipelined) : Type 0 where
  pub first : loop.first ≡ 0
  pub last : last_row loop ≡ length loop.text.rows

-- The packets do what the loop does for every number of trips from a granted one on, as `pipelined_for_all_trips` of c62_loop says: prolog and
-- epilog hold fewer iterations than are granted. A trip takes no more cycles than are allowed. The least number of them is one of which the
-- law `no_interval_is_shorter` of c62_loop_bound proves that no packets of the loop have fewer.
pub record IsMade (promised : Insn → Insn → Bool) (region : Region) (trips longest : ℕ) (made : Made) : Type 0 where
  pub decided : Decided promised region (loop_of made.pipelined) made.most
  pub granted : made.most + 1 ≤ trips
  pub lawful : All (λ row. IsLawful (row_read row)) made.pipelined.rows.rows.items
  pub alone : StandsAlone (loop_of made.pipelined)
  pub cycles : made.interval ≡ interval (loop_of made.pipelined)
  pub short : made.interval ≤ longest
  pub least : IsAsked promised region.counter (body_of region) made.least

-- Whatever stands before the loop of these instructions and behind it, and whatever packets pipeline it, each such as a text of packets may
-- have: no fewer cycles lie between two passes of their kernel.
abbrev pub NoneIsShorter : Promise → Reg → List SerialInsn → ℕ → Type 0
NoneIsShorter promise counter body cycles = (region : Region) → region.counter ≡ counter → region.body ≡ body → (loop : Pipelined) (most : ℕ)
    → Decided (promises promise) region loop most → All IsRow loop.text.rows → cycles ≤ interval loop

-- what is known of how short a trip can be, where one takes so many cycles
abbrev pub IsShown : Promise → Region → ℕ → Shortness → Type 0
IsShown promise region cycles Shortest = NoneIsShorter promise region.counter region.body cycles
IsShown promise region cycles (Over bound) = NoneIsShorter promise region.counter region.body bound × (bound < cycles)
