use Rattle.std.proofs.Common.{ℕ, ◌<◌, ◌≡◌, Some}
use Rattle.std.specs.Prelude.{slice_get}
use Rattle.c62_read.specs.declared.block.SerialInsn.{SerialInsn}
use Rattle.c62_loop_match.specs.declared.parts.Stage.{Stage as StageRead}
use Rattle.c62_loop_match.specs.Beyond.{IsHeldAt}
use Rattle.c62_loop_match.proofs.beyond.are_held.Given as goal

abbrev pub invariant-loop-place : goal.invariant-loop-place
invariant-loop-place l = (k : ℕ) (entry : SerialInsn) (stage : StageRead) → k < l.place
    → slice_get l.entries k ≡ Some entry → slice_get l.stages k ≡ Some stage
    → IsHeldAt l.most l.deep l.beyond k entry stage
