use Rattle.std.proofs.Common.{◌≡◌, ◌++◌, drop}
use Rattle.c62_depend.specs.Plan.{insns_of}
use Rattle.c62_why.specs.Why.{critical_from}
use Rattle.c62_why.proofs.why.critical_lines.Given as goal

abbrev pub invariant-loop-one : goal.invariant-loop-one
invariant-loop-one l =
    (l.lines.items ++ critical_from (insns_of l.plan) l.cycles l.j (drop l.one-index l.placed)
    ≡ critical_from (insns_of l.plan) l.cycles 0 l.placed)
    × (l.j ≡ l.one-index)
