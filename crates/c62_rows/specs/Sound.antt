-- What holds of all that is read.
use Rattle.std.specs.Prelude.{ℕ, ◌*◌, ◌≤◌, length, All, IfSome}
use Rattle.c62_rows.specs.Rows.{IsRow}
use Rattle.c62_rows.specs.Reading.{Reading, all_rows}
use Rattle.c62_rows.specs.declared.reader.TheConstants.{MOST_TARGETS}

-- each row is one, and branches name 256 labels at most
pub record IsSound (reading : Reading) : Type 0 where
  pub done : All IsRow reading.done
  pub current : IfSome reading.current IsRow
  pub targets : length reading.targets ≤ MOST_TARGETS

-- so many lines were read
pub record IsSmall (lines : ℕ) (reading : Reading) : Type 0 where
  pub rows : length (all_rows reading) ≤ lines
  pub idle : IfSome reading.current (λ row. row.idle ≤ 255 * lines)
