-- What each packet rule asks of one cycle (docs/MACHINE.md, "Packet rules"; SPRU189, "Resource Constraints"). A rule that
-- is kept in each cycle is kept by all.
use Rattle.std.specs.Prelude.{◌≡◌, ◌⊎◌, ℕ}
use Rattle.c62_op.specs.declared.register.Reg.{Reg}
use Rattle.c62_rules.specs.PacketRules.{Issue, Issues, IsIssued, LandsIn, MayLandTogether, KeepsPacketRules}
use Rattle.c62_rules.specs.Capacity.{IsKept as IsKeptIn}
use Rattle.c62_packet.specs.declared.fault.PacketRule.{PacketRule}
use Rattle.c62_packet.specs.declared.fault.PacketRule.TheVariants.{InCycle, P5}

-- of this cycle at most one lands in the register, or both may land together
abbrev pub HasOneLandingIn : Issues → ℕ → Issues → Type 0
HasOneLandingIn whole cycle issues =
    (i j : ℕ) (p q : Issue) (reg : Reg) → IsIssued issues i p → IsIssued issues j q → LandsIn p reg cycle → LandsIn q reg cycle
    → (i ≡ j) ⊎ MayLandTogether whole p q

-- the rule is kept in this cycle by some of a block, for P5 by what lands in it
abbrev pub IsKeptAmong : Issues → PacketRule → ℕ → Issues → Type 0
IsKeptAmong whole (InCycle rule) cycle issues = IsKeptIn rule cycle issues
IsKeptAmong whole P5 cycle issues = HasOneLandingIn whole cycle issues

-- the same of a whole block
abbrev pub IsKept : PacketRule → ℕ → Issues → Type 0
IsKept rule cycle issues = IsKeptAmong issues rule cycle issues

-- the packet rules are these, in all cycles
pub record AreKeptInEach (issues : Issues) : Type 0 where
  pub whole : ((rule : PacketRule) (cycle : ℕ) → IsKept rule cycle issues) → KeepsPacketRules issues
  pub each : KeepsPacketRules issues → (rule : PacketRule) (cycle : ℕ) → IsKept rule cycle issues
