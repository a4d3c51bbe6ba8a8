use Rattle.std.proofs.Common.{◌≡◌, ◌++◌, drop}
use Rattle.std.specs.List.{flat_map}
use Rattle.c62_faulted.specs.Sentence.{fault_text}
use Rattle.c62_faulted.proofs.sentence.push_faults.Given as goal

abbrev pub invariant-loop-fault : goal.invariant-loop-fault
invariant-loop-fault l =
    l.out.items ++ flat_map (fault_text l.base) (drop l.fault-index l.faults)
    ≡ l.fn.out.items ++ flat_map (fault_text l.base) l.faults
