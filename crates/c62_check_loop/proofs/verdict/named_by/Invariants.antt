use Rattle.std.proofs.Common.{ℕ, ◌<◌, get_or}
use Rattle.c62_read.specs.declared.block.SerialInsn.{SerialInsn}
use Rattle.c62_check_loop.specs.Told.{IsNamed}
use Rattle.c62_check_loop.proofs.verdict.named_by.Given as goal

abbrev pub invariant-loop-entry : goal.invariant-loop-entry
invariant-loop-entry l = (k : ℕ) (d : SerialInsn) → k < l.entry-index → IsNamed l.named (get_or l.past k d).insn
