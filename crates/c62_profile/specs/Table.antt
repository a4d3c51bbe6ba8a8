-- The table of a profile (docs/REPORT.md, "The profile").
use Rattle.std.specs.Prelude.{ℕ, ◌*◌, ◌/◌, ◌%◌, ◌==◌, List, [], ◌∷◌, ◌++◌, length, decimal, codes, Option, Some, None, if◌then◌else◌}
use Rattle.std.specs.List.{flat_map, range_with_len}
use Rattle.c62_read.specs.Block.{Serial}
use Rattle.c62_serial.specs.Chain.{block_of as serial_block_of}
use Rattle.c62_packet.specs.Packed.{Packed}
use Rattle.c62_pipe.specs.Chain.{block_of}
use Rattle.c62_profile.specs.declared.tally.Tally.{Tally}
use Rattle.c62_profile.specs.Visits.{visits_at, cycles_each, insns_each}

-- the label of a block, or its number
abbrev pub name : ℕ → Option (List ℕ) → List ℕ
name number None = decimal number
name number (Some label) = label

-- how many thousandths of the whole a part is, rounded down; none of nothing
unfoldable pub thousandths : ℕ → ℕ → ℕ
thousandths part whole = if whole == 0 then 0 else part * 1000 / whole

-- `98.5%`
abbrev pub percent : ℕ → List ℕ
percent share = decimal (share / 10) ++ codes "." ++ decimal (share % 10) ++ codes "%"

-- `LOOP 100 8 800 98.5%`: the block, how often it was run, what a run takes, what all took, and their share of the whole
unfoldable pub row : List ℕ → ℕ → ℕ → ℕ → List ℕ
row block runs each whole =
    block ++ codes " " ++ decimal runs ++ codes " " ++ decimal each ++ codes " " ++ decimal (runs * each) ++ codes " "
    ++ percent (thousandths (runs * each) whole) ++ codes "\n"

abbrev pub packet_row : List Packed → Tally → ℕ → List ℕ
packet_row packets tally number =
    row (name number (block_of packets number).label) (visits_at tally.visits.items number) (cycles_each packets number) tally.taken

-- the table of a run of packets: a row a block, in their order
unfoldable pub packet_table : List Packed → Tally → List ℕ
packet_table packets tally = codes "block runs cycles sum share\n" ++ flat_map (packet_row packets tally) (range_with_len 0 (length packets))

abbrev pub serial_row : List Serial → Tally → ℕ → List ℕ
serial_row program tally number =
    row (name number (serial_block_of program number).label) (visits_at tally.visits.items number) (insns_each program number) tally.taken

-- the table of a serial run, where a block takes its instructions
unfoldable pub serial_table : List Serial → Tally → List ℕ
serial_table program tally = codes "block runs instructions sum share\n" ++ flat_map (serial_row program tally) (range_with_len 0 (length program))
