use Rattle.std.proofs.Common.{◌≡◌, ◌++◌, drop, map}
use Rattle.std.specs.Prelude.{All}
use Rattle.c62_loop_match.specs.Reading.{unlined}
use Rattle.c62_pipeline.specs.Lined.{IsLined}
use Rattle.c62_pipeline.proofs.origin.lined_row.Given as goal

-- with the others it is the whole, and each is lined
abbrev pub invariant-loop-place : goal.invariant-loop-place
invariant-loop-place l =
    (map unlined l.insns.items ++ map unlined (drop l.place l.row.insns.items) ≡ map unlined l.row.insns.items)
    × All (IsLined l.blocks) l.insns.items
