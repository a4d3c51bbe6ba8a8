use Rattle.std.proofs.Common.{◌≡◌, ◌≤◌, ◌*◌, take}
use Rattle.std.specs.Prelude.{sum_by}
use Rattle.c62_insn.specs.Insn.{reads_count}
use Rattle.c62_pair.specs.Uses.{insns_in}
use Rattle.c62_loop_bound.proofs.share.reads.Given as goal

abbrev pub invariant-loop-uses : goal.invariant-loop-uses
invariant-loop-uses l = (l.sum ≡ sum_by (reads_count l.reg) (insns_in (take l.uses-index l.work)))
    × (l.sum ≤ 3 * l.uses-index)
