use Rattle.std.proofs.Common.{◌≡◌, ◌++◌}
use Rattle.c62_apart.specs.Sentence.{lines_upto}
use Rattle.c62_apart.proofs.sentence.push_loops.Given as goal

abbrev pub invariant-loop-number : goal.invariant-loop-number
invariant-loop-number l = l.out.items ≡ l.fn.out.items ++ lines_upto l.base l.blocks l.met l.number
