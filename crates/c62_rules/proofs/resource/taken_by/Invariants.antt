use Rattle.std.proofs.Common.{◌≡◌, ◌++◌, map, take}
use Rattle.c62_rules.specs.declared.resource.Resource.TheVariants.{ReadsOf}
use Rattle.c62_rules.specs.Resource.{paths_taken}
use Rattle.c62_rules.proofs.resource.taken_by.Given as goal

abbrev pub invariant-loop-reg : goal.invariant-loop-reg
invariant-loop-reg l = l.taken.items ≡ paths_taken l.fn.insn l.fn.unit ++ map ReadsOf (take l.reg-index l.reg-items)
