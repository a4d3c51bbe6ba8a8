use Rattle.std.proofs.Common.{◌≡◌, ◌++◌, drop}
use Rattle.std.specs.Prelude.{string_bytes}
use Rattle.std.specs.List.{flat_map}
use Rattle.c62_pipeline.specs.Lines.{choice_line, loop_lines}
use Rattle.c62_pipeline.proofs.lines.loop_lines.Given as goal

abbrev pub invariant-loop-choice : goal.invariant-loop-choice
invariant-loop-choice l =
    string_bytes l.out ++ flat_map (choice_line l.blocks) (drop l.choice-index l.written.loops.items)
    ≡ loop_lines l.blocks l.written
