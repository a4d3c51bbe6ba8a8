-- What is told of a fault of a packet block (docs/LISTING.md, "Faults of a block").
use Rattle.std.specs.Prelude.{ℕ, List, ◌++◌, codes, decimal}
use Rattle.c62_rules.specs.Resource.{rule_name as name_in_cycle}
use Rattle.c62_packet.specs.declared.fault.PacketRule.{PacketRule}
use Rattle.c62_packet.specs.declared.fault.PacketRule.TheVariants.{InCycle, P5}
use Rattle.c62_packet.specs.declared.fault.BlockFault.{BlockFault}
use Rattle.c62_packet.specs.declared.fault.BlockFault.TheVariants.{TwoBranches, NotDrained, Unlawful}

abbrev pub rule_name : PacketRule → List ℕ
rule_name (InCycle rule) = name_in_cycle rule
rule_name P5 = codes "P5"

-- `TwoBranches`, `NotDrained` or `cycle C: RULE`
abbrev pub block_fault_text : BlockFault → List ℕ
block_fault_text TwoBranches = codes "TwoBranches"
block_fault_text NotDrained = codes "NotDrained"
block_fault_text (Unlawful cycle rule) = codes "cycle " ++ decimal cycle ++ codes ": " ++ rule_name rule
