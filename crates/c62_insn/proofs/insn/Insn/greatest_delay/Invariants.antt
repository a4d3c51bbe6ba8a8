use Rattle.std.proofs.Common.{◌≡◌, max, drop}
use Rattle.c62_insn.specs.Insn.{greatest_delay}
use Rattle.c62_insn.proofs.insn.Insn.greatest_delay.Given as goal

abbrev pub invariant-loop-write : goal.invariant-loop-write
invariant-loop-write l = max l.greatest (greatest_delay (drop l.write-index l.write-items)) ≡ greatest_delay
    l.write-items
