-- What a run begins with: nothing in flight, and rows that the units can issue.
use Rattle.std.specs.Prelude.{◌≡◌, ℕ, ◌%◌, ◌≤◌, length, map, slice_index_or, None}
use Rattle.std.specs.List.Sorted.{IsStrictlyIncreasing}
use Rattle.c62_op.specs.Units.{index_of}
use Rattle.c62_rows.specs.declared.rows.Row.{Row}
use Rattle.c62_pipe.specs.Flight.{IsIdle}
use Rattle.c62_exec.specs.declared.underway.Underway.{Underway}

pub record IsOnGround (underway : Underway) : Type 0 where
  pub idle : IsIdle underway.pipe
  pub size : length underway.turns ≡ 6
  pub turns : (cycle : ℕ) → slice_index_or underway.turns (cycle % 6) None ≡ None

-- the instructions of a row stand in the order of the eight units, at most one on each
pub record IsFine (row : Row) : Type 0 where
  pub in_order : IsStrictlyIncreasing (map (λ p. index_of p.unit) row.insns.items)
  pub few : length row.insns.items ≤ 8
