-- The units can issue the rows of every text.
use Rattle.std.proofs.Common.{arith}
use Rattle.std.proofs.lemmas.List.{length-map}
use Rattle.c62_flight.specs.Text.{IsIssuable}
use Rattle.c62_rows.specs.declared.rows.Rows.{Rows as RowsRead}
use Rattle.c62_rows.specs.Rows.{row_read, text_of, AreRows}

pub rows_are_issuable : (rows : RowsRead) → AreRows rows → IsIssuable (text_of rows)
rows_are_issuable rows are = record {
  in_order = λ k d low. (are.each k d low).in_order;
  few_insns = λ k d low. (are.each k d low).few;
  few_rows = omega (arith, are.few, length-map rows.rows.items row_read);
}
