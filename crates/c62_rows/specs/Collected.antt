-- What is collected once all lines of a text are read.
use Rattle.std.specs.Prelude.{◌≡◌, map, None}
use Rattle.c62_rows.specs.declared.text.RowsText.{RowsText}
use Rattle.c62_rows.specs.Rows.{row_read}
use Rattle.c62_rows.specs.Worded.{AreWorded}
use Rattle.c62_rows.specs.Reading.{Reading}
use Rattle.c62_rows.specs.Text.{lost_among, aims_among}
use Rattle.c62_rows.specs.Told.{names_of}

-- the rows that are over, with the words of labels, and the rows of the labels that branches and words name, all of which are found
pub record Collects (reading : Reading) (read : RowsText) : Type 0 where
  pub rows : AreWorded reading.words reading.labels reading.done (map row_read read.rows.rows.items)
  pub aims_are : read.rows.aims.items ≡ aims_among reading.targets reading.labels
  pub names : names_of read ≡ reading.labels
  pub found : lost_among reading.targets reading.labels ≡ None
