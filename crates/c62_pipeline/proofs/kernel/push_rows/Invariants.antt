use Rattle.std.proofs.Common.{◌≡◌, ◌++◌, drop}
use Rattle.std.specs.Prelude.{string_bytes}
use Rattle.c62_pipeline.specs.Kernel.{rows_text}
use Rattle.c62_pipeline.proofs.kernel.push_rows.Given as goal

abbrev pub invariant-loop-row : goal.invariant-loop-row
invariant-loop-row l =
    string_bytes l.out ++ rows_text l.widths l.epilog l.cycle (drop l.row-index l.kernel)
    ≡ string_bytes l.fn.out ++ rows_text l.widths l.epilog 0 l.kernel
