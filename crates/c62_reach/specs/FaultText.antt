-- What is told where nothing of a text is taken (docs/ADOPT.md, "Parts of a text").
use Rattle.std.specs.Prelude.{ℕ, List, codes}
use Rattle.c62_reach.specs.declared.fault.ReachFault.{ReachFault}
use Rattle.c62_reach.specs.declared.fault.ReachFault.TheVariants.{From, Memory}

abbrev pub reach_fault_text : ReachFault → List ℕ
reach_fault_text From = codes "from: UnknownTarget"
reach_fault_text Memory = codes "memory"
