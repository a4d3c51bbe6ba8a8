-- A table and its document are of one list of rows.
use Rattle.std.proofs.Common.{◌≡◌, ℕ, ◌*◌, List, [], ◌∷◌, ◌++◌, map, length, refl, sym, ap}
use Rattle.std.specs.Prelude.{codes, Option}
use Rattle.std.specs.List.{flat_map, range_with_len}
use Rattle.c62_read.specs.Block.{Serial}
use Rattle.c62_serial.specs.Chain.{block_of as serial_block_of}
use Rattle.c62_packet.specs.Packed.{Packed}
use Rattle.c62_pipe.specs.Chain.{block_of}
use Rattle.c62_profile.specs.declared.tally.Tally.{Tally}
use Rattle.c62_profile.specs.Visits.{cycles_each, insns_each, visits_at}
use Rattle.c62_profile.specs.Table.{packet_table, row as line_of, serial_table, thousandths}
use Rattle.c62_json.specs.Document.{array}
use Rattle.c62_json_report.specs.Profile.{packet_rows, ran, serial_rows}
use Rattle.c62_json_report.specs.AlikeRows.{Row, TellRows, row_line, row_object}

through : {X : Type 0} (told : Row → List X) (fact : ℕ → Row) (ks : List ℕ)
    → flat_map told (map fact ks) ≡ flat_map (λ k. told (fact k)) ks
through told fact [] = refl
through told fact (k ∷ ks) = ap (λ rest. told (fact k) ++ rest) (through told fact ks)

abbrev row_of : (number : ℕ) → Option (List ℕ) → (runs each whole : ℕ) → Row
row_of number label runs each whole = record {
  number = number;
  label = label;
  runs = runs;
  each = each;
  sum = runs * each;
  share = thousandths (runs * each) whole;
}

abbrev packet_fact : List Packed → Tally → ℕ → Row
packet_fact packets tally number =
    row_of number (block_of packets number).label (visits_at tally.visits.items number) (cycles_each packets number)
    tally.taken

abbrev serial_fact : List Serial → Tally → ℕ → Row
serial_fact program tally number =
    row_of number (serial_block_of program number).label (visits_at tally.visits.items number)
    (insns_each program number) tally.taken

pub packets_told : (packets : List Packed) (tally : Tally)
    → TellRows (codes "cycles") (packet_table packets tally) (packet_rows packets tally)
unfolding packet_table line_of ran
packets_told packets tally = record {
  rows = map (packet_fact packets tally) (range_with_len 0 (length packets));
  table_is = ap (λ rows. codes "block runs cycles sum share\n" ++ rows)
      (sym (through row_line (packet_fact packets tally) (range_with_len 0 (length packets))));
  told_is = ap array
      (sym (through (row_object (codes "cycles")) (packet_fact packets tally) (range_with_len 0 (length packets))));
}

pub program_told : (program : List Serial) (tally : Tally)
    → TellRows (codes "instructions") (serial_table program tally) (serial_rows program tally)
unfolding serial_table line_of ran
program_told program tally = record {
  rows = map (serial_fact program tally) (range_with_len 0 (length program));
  table_is = ap (λ rows. codes "block runs instructions sum share\n" ++ rows)
      (sym (through row_line (serial_fact program tally) (range_with_len 0 (length program))));
  told_is = ap array
      (sym (through (row_object (codes "instructions")) (serial_fact program tally)
      (range_with_len 0 (length program))));
}
