use Rattle.std.proofs.Common.{◌≡◌, [], drop}
use Rattle.std.specs.Prelude.{fold}
use Rattle.c62_rules.specs.Resource.{taken_by}
use Rattle.c62_why.specs.Taken.{with_taken}
use Rattle.c62_why.proofs.taken.more_taken.Given as goal

abbrev pub invariant-loop-resource : goal.invariant-loop-resource
invariant-loop-resource l =
    fold (with_taken l.placed l.one l.first) l.more.items (drop l.resource-index l.resource-items)
    ≡ fold (with_taken l.placed l.one l.first) [] (taken_by l.one.insn l.one.unit)
