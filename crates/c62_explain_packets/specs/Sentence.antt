-- What is wrong with a line of packets, in one sentence (docs/FAULTS.md, "Packets").
use Rattle.std.specs.Prelude.{ℕ, List, codes}
use Rattle.c62_rules.specs.declared.resource.CycleRule.TheVariants.{P1, P2, P3, P4}
use Rattle.c62_line.specs.declared.fault.Cause.{Cause}
use Rattle.c62_line.specs.declared.fault.Cause.TheVariants.{ParallelBar, Directive as NoDirective, TextTooLong}
use Rattle.c62_packet.specs.declared.fault.PacketRule.{PacketRule}
use Rattle.c62_packet.specs.declared.fault.PacketRule.TheVariants.{InCycle, P5}
use Rattle.c62_adopt_code.specs.declared.fault.CodeCause.{CodeCause}
use Rattle.c62_adopt_code.specs.declared.fault.CodeCause.TheVariants.{Directive, OtherSection, Padding}
use Rattle.c62_explain.specs.Sentence.{sentence}
use Rattle.c62_explain_packets.specs.declared.finding.What.{What}
use Rattle.c62_explain_packets.specs.declared.finding.What.TheVariants.{Read, UnitWanted, TooManyCycles, TwoBranches, BranchBeside, TooManyTargets, NotDrained, Rule, Code, Shape}

abbrev pub rule_sentence : PacketRule → List ℕ
rule_sentence (InCycle P1) = codes "another instruction of the cycle is on this unit"
rule_sentence (InCycle P2) = codes "another instruction of the cycle uses this cross path"
rule_sentence (InCycle P3) = codes "another access of the cycle uses this data path"
rule_sentence (InCycle P4) = codes "the cycle reads a register more than four times"
rule_sentence P5 = codes "another write of the register lands in the same cycle"

abbrev pub code_sentence : CodeCause → List ℕ
code_sentence Directive = codes "this directive may lay something down"
code_sentence OtherSection = codes "this stands in another section than the code"
code_sentence Padding = codes "this alignment may be padded with cycles that code runs through"

-- of what a line of serial text may have, too
abbrev pub read_sentence : Cause → List ℕ
read_sentence ParallelBar = codes "no packet is above these bars"
read_sentence NoDirective = codes "this directive isn't known"
read_sentence TextTooLong = codes "the text is too long"
read_sentence cause = sentence cause

abbrev pub what_sentence : What → List ℕ
what_sentence (Read cause) = read_sentence cause
what_sentence UnitWanted = codes "in a packet each instruction names its unit"
what_sentence TooManyCycles = codes "the block has more cycles than it may have"
what_sentence TwoBranches = codes "another branch is in the delay slots of this one"
what_sentence BranchBeside = codes "another branch stands in this packet"
what_sentence TooManyTargets = codes "a text has at most 256 labels that are named"
what_sentence NotDrained = codes "this is still in flight where its block is over"
what_sentence (Rule rule) = rule_sentence rule
what_sentence (Code cause) = code_sentence cause
what_sentence Shape = codes "a listing spells this line in another way, or has none such here"
