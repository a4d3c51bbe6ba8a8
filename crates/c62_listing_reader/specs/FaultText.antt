-- What is told of a fault of a listing (docs/LISTING.md, "Faults of a block").
use Rattle.std.specs.Prelude.{ℕ, List, ◌++◌, codes, decimal}
use Rattle.c62_line.specs.Fault.{fault_text}
use Rattle.c62_packet.specs.declared.fault.BlockFault.TheVariants as block
use Rattle.c62_packet.specs.FaultText.{block_fault_text}
use Rattle.c62_listing_reader.specs.declared.fault.ListFault.{ListFault}
use Rattle.c62_listing_reader.specs.declared.fault.ListFault.TheVariants.{Read, Unlawful, NotDrained, TwoBranches, Shape, Memory}

-- `line L: NAME`, `block K: NAME` or `block K cycle C: RULE`
abbrev pub list_fault_text : ListFault → List ℕ
list_fault_text (Read fault) = fault_text fault.line fault.cause
list_fault_text (Shape line) = codes "line " ++ decimal line ++ codes ": Shape"
list_fault_text (TwoBranches number) = codes "block " ++ decimal number ++ codes ": " ++ block_fault_text block.TwoBranches
list_fault_text (NotDrained number) = codes "block " ++ decimal number ++ codes ": " ++ block_fault_text block.NotDrained
list_fault_text (Unlawful number cycle rule) = codes "block " ++ decimal number ++ codes " " ++ block_fault_text (block.Unlawful cycle rule)
list_fault_text Memory = codes "memory"
