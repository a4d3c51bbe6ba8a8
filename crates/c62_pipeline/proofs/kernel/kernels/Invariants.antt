use Rattle.std.proofs.Common.{◌≡◌, ◌++◌, drop}
use Rattle.std.specs.Prelude.{string_bytes}
use Rattle.c62_pipeline.specs.Kernel.{kernels, kernels_from}
use Rattle.c62_pipeline.proofs.kernel.kernels.Given as goal

abbrev pub invariant-loop-choice : goal.invariant-loop-choice
invariant-loop-choice l =
    (string_bytes l.out ++ kernels_from l.blocks l.number (drop l.choice-index l.written.loops.items)
    ≡ kernels l.blocks l.written)
    × (l.number ≡ l.choice-index)
