-- The rows of a pipelined loop's visits.
use Rattle.std.proofs.Common.{ℕ, zero, suc, ◌+◌, ◌<◌, ◌≤◌, ◌++◌}
use Rattle.std.proofs.Common.{inl, inr, arith}
use Rattle.c62_meaning.proofs.Lookup.{In, In-append_cases}
use Rattle.c62_flight.specs.Text.{Text, row_of}
use Rattle.c62_flight.specs.Issued.{Visit}
use Rattle.c62_flight.specs.Laid.{straight}
use Rattle.c62_loop.specs.Loop.{Pipelined, kernel_row, epilog_row, last_row, pass_start, passes_from}
use Rattle.c62_loop.specs.Loop.{visits_of}

straight_rows : (text : Text) (row start count : ℕ) (visit : Visit) → In visit (straight text row start count)
    → (row ≤ visit.row) × (visit.row < row + count)
straight_rows text row start zero visit h = absurd h
straight_rows text row start (suc count) visit h = grind (
  arith,
  straight_rows text (row + 1) (start + (row_of text row).idle + 1) count visit,
)

pass_rows : (loop : Pipelined) (pass count : ℕ) (visit : Visit) → In visit (passes_from loop pass count)
    → (kernel_row loop ≤ visit.row) × (visit.row < epilog_row loop)
pass_rows loop pass zero visit h = absurd h
pass_rows loop pass (suc count) visit h =
    elim (In-append_cases visit (straight loop.text (kernel_row loop) (pass_start loop pass) loop.kernel)
    (passes_from loop (suc pass) count) h) [
      | inl k ↦ straight_rows loop.text (kernel_row loop) (pass_start loop pass) loop.kernel visit k
      | inr k ↦ pass_rows loop (suc pass) count visit k
    ]

pub rows_within : (loop : Pipelined) (passes : ℕ) (visit : Visit) → In visit (visits_of loop passes)
    → (loop.first ≤ visit.row) × (visit.row < last_row loop)
rows_within loop passes visit h = grind (
  arith,
  In-append_cases visit (straight loop.text loop.first 0 loop.prolog) (passes_from loop 0 passes ++ straight loop.text
      (epilog_row loop) (pass_start loop passes) loop.epilog) h,
  straight_rows loop.text loop.first 0 loop.prolog visit,
  In-append_cases visit (passes_from loop 0 passes) (straight loop.text (epilog_row loop) (pass_start loop passes)
      loop.epilog),
  pass_rows loop 0 passes visit,
  straight_rows loop.text (epilog_row loop) (pass_start loop passes) loop.epilog visit,
)
