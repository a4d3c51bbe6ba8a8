-- What stands against a block that is written with so many cycles (docs/LISTING.md, "Faults of a block").
use Rattle.std.specs.Prelude.{◌≡◌, ◌⊎◌, ℕ, ◌<◌, List, Option, MatchOption, Result, MatchResult}
use Rattle.c62_rules.specs.Length.{length_of}
use Rattle.c62_rules.specs.PacketRules.{KeepsPacketRules}
use Rattle.c62_rules.specs.Capacity.{rank_of as rank_in_cycle}
use Rattle.c62_packet.specs.declared.placed.Placed.{Placed}
use Rattle.c62_packet.specs.declared.fault.PacketRule.{PacketRule}
use Rattle.c62_packet.specs.declared.fault.PacketRule.TheVariants.{InCycle, P5}
use Rattle.c62_packet.specs.declared.fault.BlockFault.{BlockFault}
use Rattle.c62_packet.specs.declared.fault.BlockFault.TheVariants.{TwoBranches, NotDrained, Unlawful}
use Rattle.c62_packet.specs.Packed.{Packed, issued, issues_of, HaveOneBranch, AreDrained, IsPacketBlock}
use Rattle.c62_packet.specs.Rules.{IsKept}

-- the cycles written are the block's length, and all lands before its end
pub record HaveLength (cycles : ℕ) (placed : List Placed) : Type 0 where
  pub own_length : cycles ≡ length_of (issues_of placed)
  pub drained : AreDrained cycles placed

-- the rules of a cycle in their order, and P5 behind all
abbrev pub rank_of : PacketRule → ℕ
rank_of (InCycle rule) = rank_in_cycle rule
rank_of P5 = 16

-- by cycle, and in a cycle in the order of the rules
abbrev pub IsBefore : ℕ → PacketRule → ℕ → PacketRule → Type 0
IsBefore cycle rule other next = (cycle < other) ⊎ ((cycle ≡ other) × (rank_of rule < rank_of next))

-- the rule is broken in this cycle, and before that all are kept
pub record IsFirstBroken (cycle : ℕ) (rule : PacketRule) (placed : List Placed) : Type 0 where
  pub broken : IsKept rule cycle (issued placed) → ⊥
  pub first : (earlier : ℕ) (other : PacketRule) → IsBefore earlier other cycle rule → IsKept other earlier (issued placed)

-- the first such cycle and rule, or that all rules are kept
abbrev pub FindsBroken : List Placed → Option (ℕ × PacketRule) → Type 0
FindsBroken placed found = MatchOption found (KeepsPacketRules (issued placed)) (λ first. IsFirstBroken first.0 first.1 placed)

-- the first fault: too many branches, then cycles that are not the length, then the packet rules
abbrev pub IsFault : ℕ → List Placed → BlockFault → Type 0
IsFault cycles placed TwoBranches = HaveOneBranch placed → ⊥
IsFault cycles placed NotDrained = HaveOneBranch placed × (HaveLength cycles placed → ⊥)
IsFault cycles placed (Unlawful cycle rule) = HaveOneBranch placed × HaveLength cycles placed × IsFirstBroken cycle rule placed

-- the block that was asked for is a packet block, or its first fault
abbrev pub IsPackedOrFaulty : Packed → Result Packed BlockFault → Type 0
IsPackedOrFaulty block made =
    MatchResult made (λ packed. (packed ≡ block) × IsPacketBlock packed) (λ fault. IsFault block.cycles block.placed fault)

-- a packet block has no fault
abbrev pub HasNoFault : Packed → Type 0
HasNoFault block = IsPacketBlock block → (fault : BlockFault) → IsFault block.cycles block.placed fault → ⊥

-- instructions that are written with so many cycles have one fault at most
abbrev pub HasOneFault : ℕ → List Placed → Type 0
HasOneFault cycles placed = (fault other : BlockFault) → IsFault cycles placed fault → IsFault cycles placed other → fault ≡ other
