-- What the rows of a kernel hold, pass by pass.
use Rattle.std.proofs.Common.{arith, ◌≡◌, ℕ, zero, suc, ◌+◌, ◌*◌, ◌<◌, ◌≤◌, List, [], ◌∷◌, map, length, refl}
use Rattle.std.specs.Prelude.{sum_by}
use Rattle.std.proofs.Math.Nat.{mul-le-mul_left}
use Rattle.std.proofs.lemmas.List.Sums.{sum_by-cons, sum_by-append}
use Rattle.c62_packet.specs.declared.placed.Placed.{Placed}
use Rattle.c62_flight.specs.Text.{Text, row_of}
use Rattle.c62_flight.specs.Issued.{issue_in, issued_on}
use Rattle.c62_flight.specs.Laid.{straight, straight_end}
use Rattle.c62_loop.specs.Loop.{Pipelined, kernel_row, last_row, prolog_cycles, interval}
use Rattle.c62_loop.proofs.LaterRows.{kernel_rows}

module _ (text : Text) (f : Placed → ℕ) (same : (cycle : ℕ) (p : Placed) → f (issue_in cycle p) ≡ f p) where
  moved_sum : (cycle : ℕ) (ps : List Placed) → sum_by f (map (issue_in cycle) ps) ≡ sum_by f ps
  moved_sum cycle [] = refl
  moved_sum cycle (p ∷ ps) =
      omega (
        arith,
        same cycle p,
        moved_sum cycle ps,
        sum_by-cons f p ps,
        sum_by-cons f (issue_in cycle p)
            (map (issue_in cycle) ps),
      )

  -- where no row holds more than so much, rows hold no more than as often that
  rows_hold : (most row start count : ℕ) → row + count ≤ length text.rows
      → ((number : ℕ) → number < length text.rows → sum_by f (row_of text number).insns ≤ most)
      → sum_by f (issued_on text (straight text row start count)) ≤ most * count
  rows_hold most row start zero within each = omega arith
  rows_hold most row start (suc count) within each =
      let next : ℕ = start + (row_of text row).idle + 1 in
      let here : sum_by f (row_of text row).insns ≤ most = each row (omega (arith, within)) in
      let rest : sum_by f (issued_on text (straight text (row + 1) next count)) ≤ most * count
      = rows_hold most (row + 1) next count (omega (arith, within)) each in
      let both : sum_by f (issued_on text (straight text row start (suc count)))
      ≡ sum_by f (map (issue_in start) (row_of text row).insns) + sum_by f
      (issued_on text (straight text (row + 1) next count))
      = sum_by-append f (map (issue_in start) (row_of text row).insns)
      (issued_on text (straight text (row + 1) next count)) in
      omega (arith, here, rest, both, moved_sum start (row_of text row).insns)

-- each row takes a cycle or more
rows_last : (text : Text) (row start count : ℕ) → start + count ≤ straight_end text row start count
rows_last text row start zero = omega arith
rows_last text row start (suc count) =
    let rest : start + (row_of text row).idle + 1 + count ≤ straight_end text (row + 1)
    (start + (row_of text row).idle + 1) count
    = rows_last text (row + 1) (start + (row_of text row).idle + 1) count in
    omega (arith, rest)

-- a pass holds no more than as often what a row may hold as it has cycles
pub pass_holds : (loop : Pipelined) (f : Placed → ℕ) (most : ℕ)
    → ((cycle : ℕ) (p : Placed) → f (issue_in cycle p) ≡ f p)
    → last_row loop ≤ length loop.text.rows
    → ((number : ℕ) → number < length loop.text.rows → sum_by f (row_of loop.text number).insns ≤ most)
    → sum_by f (kernel_rows loop) ≤ most * interval loop
pass_holds loop f most same within each =
    let held : sum_by f (kernel_rows loop) ≤ most * loop.kernel
    = rows_hold loop.text f same most (kernel_row loop) (prolog_cycles loop) loop.kernel (omega (arith, within)) each in
    let last : 0 + loop.kernel ≤ interval loop = rows_last loop.text (kernel_row loop) 0 loop.kernel in
    let more : most * loop.kernel ≤ most * interval loop = mul-le-mul_left most (omega (arith, last)) in
    omega (arith, held, more)
