-- The listing of packets, line by line (docs/LISTING.md).
use Rattle.std.specs.Prelude.{ℕ, ◌+◌, ◌-◌, ◌/◌, ◌%◌, ◌==◌, nat_lt, if◌then◌else◌, List, [], ◌∷◌, ◌++◌, Option, Some, None, replicate, codes, decimal}
use Rattle.std.specs.List.{flat_map, slice_get}
use Rattle.c62_insn.specs.Spelling.{spelling}
use Rattle.c62_packet.specs.declared.placed.Placed.{Placed}
use Rattle.c62_packet.specs.Packed.{Packed}
use Rattle.c62_packet.specs.Packets.{labels_of}

-- the name of what a branch goes to: the label of the block of this number
abbrev pub label_text : Option (Option (List ℕ)) → List ℕ
label_text (Some (Some label)) = label
label_text _ = []

abbrev pub name_in : List Packed → ℕ → List ℕ
name_in packets number = label_text (slice_get (labels_of packets) number)

abbrev pub pause_line : ℕ → List ℕ
pause_line cycles = codes "   NOP " ++ decimal cycles

-- a run of cycles without instructions: as many NOPs of nine cycles as fit, then one for the rest
abbrev pub idle_lines : ℕ → List (List ℕ)
idle_lines cycles = replicate (cycles / 9) (pause_line 9) ++ (if cycles % 9 == 0 then [] else pause_line (cycles % 9) ∷ [])

-- what is written of an instruction, with what stands before it and the line's end
abbrev pub whole_line : (ℕ → List ℕ) → List ℕ → Placed → List ℕ
whole_line name front p = front ++ spelling name p.insn p.unit ++ codes "\n"

-- Where the cycles below `next` are written, the lines up to an instruction: three spaces before the first of a packet, and
-- bars before the others.
abbrev pub placed_lines : (ℕ → List ℕ) → ℕ → Placed → List (List ℕ)
placed_lines name next p =
    if nat_lt p.cycle next then (codes "|| " ++ spelling name p.insn p.unit) ∷ []
    else idle_lines (p.cycle - next) ++ (codes "   " ++ spelling name p.insn p.unit) ∷ []

-- the cycles of a block from `next` to its length, of which these instructions are left
abbrev pub cycle_lines : (ℕ → List ℕ) → ℕ → ℕ → List Placed → List (List ℕ)
cycle_lines name next length [] = idle_lines (length - next)
cycle_lines name next length (p ∷ rest) = placed_lines name next p ++ cycle_lines name (p.cycle + 1) length rest

abbrev pub label_lines : Option (List ℕ) → List (List ℕ)
label_lines None = []
label_lines (Some label) = (label ++ codes ":") ∷ []

-- a block is its label line and its cycles
abbrev pub block_lines : (ℕ → List ℕ) → Packed → List (List ℕ)
block_lines name block = label_lines block.label ++ cycle_lines name 0 block.cycles block.placed

-- a block behind another has one empty line before it
abbrev pub parted_lines : (ℕ → List ℕ) → List Packed → List (List ℕ)
parted_lines name [] = []
parted_lines name (block ∷ blocks) = [] ∷ block_lines name block ++ parted_lines name blocks

abbrev pub all_lines : (ℕ → List ℕ) → List Packed → List (List ℕ)
all_lines name [] = []
all_lines name (block ∷ blocks) = block_lines name block ++ parted_lines name blocks

-- each line ends with a line feed
abbrev pub text_of : List (List ℕ) → List ℕ
text_of lines = flat_map (λ line. line ++ codes "\n") lines

abbrev pub listing : List Packed → List ℕ
listing packets = text_of (all_lines (name_in packets) packets)
