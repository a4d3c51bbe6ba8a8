use Rattle.std.proofs.Common.{ℕ, ◌<◌, get_or}
use Rattle.c62_read.specs.declared.block.SerialInsn.{SerialInsn}
use Rattle.c62_loop.specs.Whole.{IsStageOf}
use Rattle.c62_loop_match.specs.declared.parts.Stage.{Stage as StageRead}
use Rattle.c62_loop_match.specs.Parts.{stage_of}
use Rattle.c62_loop_match.proofs.stands.are_stages_of.Given as goal

abbrev pub invariant-loop-number : goal.invariant-loop-number
invariant-loop-number l = (k : ℕ) (d : SerialInsn) (s : StageRead) → k < l.number
    → IsStageOf l.most (get_or l.entries k d) (stage_of (get_or l.stages k s))
