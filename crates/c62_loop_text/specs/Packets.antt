-- Pipelined packets as a text (docs/EXEC.md, "Rows"; docs/LISTING.md).
use Rattle.std.specs.Prelude.{ℕ, zero, suc, ◌+◌, List, [], ◌∷◌, ◌++◌, map, take, drop, Some, codes, decimal}
use Rattle.std.specs.List.{flat_map}
use Rattle.c62_insn.specs.Spelling.{spelling}
use Rattle.c62_packet.specs.declared.placed.Placed.{Placed}
use Rattle.c62_flight.specs.Text.{Row}
use Rattle.c62_listing.specs.Listing.{pause_line, label_lines, text_of}
use Rattle.c62_rows.specs.declared.rows.Row.{Row as RowRead}
use Rattle.c62_rows.specs.Rows.{row_read}
use Rattle.c62_loop_match.specs.declared.parts.Pipelined.{Pipelined as PipelinedRead}

-- what is written of an instruction that goes to this label where it goes to one, behind these bytes
abbrev pub insn_line : List ℕ → List ℕ → Placed → List ℕ
insn_line label front p = front ++ spelling (λ _. label) p.insn p.unit

-- the cycles behind the first, in the packet of that
abbrev pub idle_lines : ℕ → List (List ℕ)
idle_lines zero = []
idle_lines (suc more) = (codes "|| NOP " ++ decimal (more + 2)) ∷ []

-- a packet without instructions is a NOP; another has bars before each line but its first
abbrev pub packet_lines : List ℕ → List Placed → ℕ → List (List ℕ)
packet_lines label [] idle = pause_line (idle + 1) ∷ []
packet_lines label (p ∷ rest) idle = insn_line label (codes "   ") p ∷ map (insn_line label (codes "|| ")) rest ++ idle_lines idle

abbrev pub rows_lines : List ℕ → List Row → List (List ℕ)
rows_lines label rows = flat_map (λ row. packet_lines label row.insns row.idle) rows

abbrev pub rows_text : List ℕ → List RowRead → List ℕ
rows_text label rows = text_of (rows_lines label (map row_read rows))

-- packets above a label's line and below it
abbrev pub parted_text : List ℕ → List RowRead → List RowRead → List ℕ
parted_text label above below = rows_text label above ++ (text_of (label_lines (Some label)) ++ rows_text label below)

-- the label stands above the kernel
abbrev pub loop_text : List ℕ → PipelinedRead → List ℕ
loop_text label loop = parted_text label (take (loop.first + loop.prolog) loop.rows.rows.items) (drop (loop.first + loop.prolog) loop.rows.rows.items)
