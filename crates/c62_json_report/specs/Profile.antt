-- How often each block was run, and what it took (docs/JSON.md, "The profile").
use Rattle.std.specs.Prelude.{ℕ, ◌*◌, List, [], ◌∷◌, ◌++◌, length, drop, codes, Option, Some, None, if◌then◌else◌}
use Rattle.std.specs.List.{flat_map, range_with_len}
use Rattle.json.specs.Token.{Token, key, null}
use Rattle.c62_read.specs.Block.{Serial}
use Rattle.c62_read.specs.Program.{Name}
use Rattle.c62_serial.specs.Chain.{block_of as serial_block_of}
use Rattle.c62_packet.specs.Packed.{Packed}
use Rattle.c62_pipe.specs.Chain.{block_of}
use Rattle.c62_exec.specs.declared.tally.Count.{Count}
use Rattle.c62_profile.specs.declared.tally.Tally.{Tally}
use Rattle.c62_profile.specs.Visits.{visits_at, cycles_each, insns_each}
use Rattle.c62_profile.specs.Table.{thousandths}
use Rattle.c62_profile.specs.Flights.{Block, counts_in, cycles_of, flight_blocks, is_told, rows_in, runs_of}
use Rattle.c62_json.specs.Document.{array, count, object, text}

-- the label of a block, where it has one
abbrev pub label : Option (List ℕ) → Token
label None = null
label (Some name) = text name

-- a table that was asked for
abbrev pub asked : {X : Type 0} → (X → List Token) → Option X → List Token
asked table None = null ∷ []
asked table (Some counted) = table counted

-- ---- runs of blocks

abbrev pub block_named : (number : ℕ) → Option (List ℕ) → List Token
block_named number name = key (codes "block") ∷ count number ∷ key (codes "label") ∷ label name ∷ []

-- how often it was run, what a run takes of this, what all took, and their share of the whole
unfoldable pub ran : (taken : List ℕ) → (runs each whole : ℕ) → List Token
ran taken runs each whole =
    key (codes "runs") ∷ count runs
    ∷ key taken ∷ count each
    ∷ key (codes "sum") ∷ count (runs * each)
    ∷ key (codes "thousandths") ∷ count (thousandths (runs * each) whole) ∷ []

abbrev pub row : (taken : List ℕ) → (number : ℕ) → Option (List ℕ) → (runs each whole : ℕ) → List Token
row taken number name runs each whole = object (block_named number name ++ ran taken runs each whole)

-- a block of packets takes cycles
abbrev pub packet_row : List Packed → Tally → ℕ → List Token
packet_row packets tally number =
    row (codes "cycles") number (block_of packets number).label (visits_at tally.visits.items number) (cycles_each packets number) tally.taken

abbrev pub packet_rows : List Packed → Tally → List Token
packet_rows packets tally = array (flat_map (packet_row packets tally) (range_with_len 0 (length packets)))

-- a block of a program takes instructions
abbrev pub serial_row : List Serial → Tally → ℕ → List Token
serial_row program tally number =
    row (codes "instructions") number (serial_block_of program number).label (visits_at tally.visits.items number) (insns_each program number) tally.taken

abbrev pub serial_rows : List Serial → Tally → List Token
serial_rows program tally = array (flat_map (serial_row program tally) (range_with_len 0 (length program)))

-- ---- runs in flight

abbrev pub rows_named : Block → List Token
rows_named block = key (codes "row") ∷ count block.first ∷ key (codes "label") ∷ label block.label ∷ []

-- how often the first of some rows was begun, their cycles, and the share of these
unfoldable pub told : List Count → (whole : ℕ) → List Token
told counts whole =
    key (codes "runs") ∷ count (runs_of counts)
    ∷ key (codes "cycles") ∷ count (cycles_of counts)
    ∷ key (codes "thousandths") ∷ count (thousandths (cycles_of counts) whole) ∷ []

-- a block by its first row and its label
abbrev pub block_row : List Count → (whole : ℕ) → Block → List Token
block_row counts whole block = object (rows_named block ++ told (counts_in counts block) whole)

abbrev pub told_row : List Count → (whole : ℕ) → Block → List Token
told_row counts whole block = if is_told block then block_row counts whole block else []

-- the blocks of rows, in the order of the text
unfoldable pub flight_blocks_told : List (Name × ℕ) → List Count → (whole : ℕ) → List Token
flight_blocks_told labels counts whole = key (codes "rows") ∷ array (flat_map (told_row counts whole) (flight_blocks labels counts))

-- all that is behind the last row
unfoldable pub end_told : List Count → (whole : ℕ) → List Token
end_told counts whole = key (codes "end") ∷ object (told (drop (rows_in counts) counts) whole)

abbrev pub flight_rows : List (Name × ℕ) → (whole : ℕ) → List Count → List Token
flight_rows labels whole counts = object (flight_blocks_told labels counts whole ++ end_told counts whole)
