use Rattle.std.proofs.Common.{◌≡◌, ◌++◌, drop}
use Rattle.std.specs.List.{flat_map}
use Rattle.c62_check.specs.Lines.{block_line, early_words}
use Rattle.c62_check.proofs.lines.push_all_early.Given as goal

-- with the lines of the others it is the whole
abbrev pub invariant-loop-each : goal.invariant-loop-each
invariant-loop-each l =
    l.out.items ++ flat_map (λ each. block_line l.number (early_words each)) (drop l.each-index l.early)
    ≡ l.fn.out.items ++ flat_map (λ each. block_line l.number (early_words each)) l.early
