use Rattle.std.proofs.Common.{◌≡◌, ◌++◌, drop}
use Rattle.std.specs.List.{flat_map}
use Rattle.c62_json_loops.specs.Loops.{fault_value}
use Rattle.c62_json_loops.proofs.but.push_each_fault.Given as goal

-- with the lines of the others it is the whole
abbrev pub invariant-loop-entry : goal.invariant-loop-entry
invariant-loop-entry l =
    (l.out.tokens ++ flat_map (fault_value l.but) (drop l.entry-index l.block)
    ≡ l.fn.out.tokens ++ flat_map (fault_value l.but) l.block)
    × (l.out.before ≡ l.fn.out.before)
