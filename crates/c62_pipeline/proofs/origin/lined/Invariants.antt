use Rattle.std.proofs.Common.{◌≡◌, ◌++◌, drop, map}
use Rattle.std.specs.Prelude.{All}
use Rattle.c62_rows.specs.Rows.{row_read}
use Rattle.c62_check_loop.specs.Relined.{row_unlined}
use Rattle.c62_pipeline.specs.Lined.{IsLined}
use Rattle.c62_pipeline.proofs.origin.lined.Given as goal

-- with the others they are the whole, and each is lined
abbrev pub invariant-loop-number : goal.invariant-loop-number
invariant-loop-number l =
    (map (λ row. row_unlined (row_read row)) l.lined.items
    ++ map (λ row. row_unlined (row_read row)) (drop l.number l.rows.rows.items)
    ≡ map (λ row. row_unlined (row_read row)) l.rows.rows.items)
    × All (λ row. All (IsLined l.blocks) row.insns.items) l.lined.items
