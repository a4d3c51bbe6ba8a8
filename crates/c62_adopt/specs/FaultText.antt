-- What is told of a text of packets that is refused (docs/ADOPT.md, "Faults of a text").
use Rattle.std.specs.Prelude.{ℕ, List, ◌++◌, codes, decimal}
use Rattle.c62_packet.specs.FaultText.{rule_name}
use Rattle.c62_adopt_cut.specs.FaultText.{fault_text}
use Rattle.c62_adopt_code.specs.declared.fault.CodeFault.{CodeFault}
use Rattle.c62_adopt_code.specs.declared.fault.CodeFault.TheVariants.{At, Memory as NoMemory}
use Rattle.c62_adopt_code.specs.FaultText.{code_cause_name}
use Rattle.c62_adopt.specs.declared.fault.AdoptFault.{AdoptFault}
use Rattle.c62_adopt.specs.declared.fault.AdoptFault.TheVariants.{Text, Rule, Memory, Code}

-- what is wrong with a text that has no code
abbrev pub fault_from : CodeFault → AdoptFault
fault_from (At line cause) = Code line cause
fault_from NoMemory = Memory

-- `line L: NAME`
abbrev pub adopt_fault_text : AdoptFault → List ℕ
adopt_fault_text (Text fault) = fault_text fault.line fault.cause
adopt_fault_text (Rule line rule) = codes "line " ++ decimal line ++ codes ": " ++ rule_name rule
adopt_fault_text Memory = codes "memory"
adopt_fault_text (Code line cause) = codes "line " ++ decimal line ++ codes ": " ++ code_cause_name cause
