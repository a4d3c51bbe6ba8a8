use Rattle.std.proofs.Common.{◌≡◌, ◌++◌, drop}
use Rattle.std.specs.Prelude.{map, string_bytes}
use Rattle.c62_listing.specs.Listing.{text_of}
use Rattle.c62_rows.specs.Rows.{row_read}
use Rattle.c62_loop_text.specs.Packets.{rows_lines}
use Rattle.c62_loop_text.proofs.writer.push_rows.Given as goal

abbrev pub invariant-loop-row : goal.invariant-loop-row
invariant-loop-row l =
    string_bytes l.out ++ text_of (rows_lines l.label (map row_read (drop l.row-index l.rows)))
    ≡ string_bytes l.fn.out ++ text_of (rows_lines l.label (map row_read l.rows))
