use Rattle.std.proofs.Common.{◌≡◌, ◌++◌, drop}
use Rattle.std.specs.Prelude.{map}
use Rattle.c62_show.specs.Limits.{line_of}
use Rattle.c62_show.proofs.limits.path_lines.Given as goal

abbrev pub invariant-loop-number : goal.invariant-loop-number
invariant-loop-number l = l.lines.items ++ map (line_of l.plan.insns) (drop l.number-index l.path) ≡ map
    (line_of l.plan.insns) l.path
