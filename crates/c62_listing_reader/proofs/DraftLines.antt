-- The lines of a block as it is read.
use Rattle.c62_listing_reader.proofs.Common.{arith, ◌≡◌, ℕ, ◌+◌, ◌-◌, ◌/◌, ◌%◌, ◌<◌, ◌≤◌, List, [], ◌∷◌, ◌++◌, map}
use Rattle.c62_listing_reader.proofs.Common.{Option, Some, None, true, false, refl, ap, append_assoc, append-nil, ◌==◌}
use Rattle.c62_listing_reader.proofs.Common.{nat_lt, if◌then◌else◌, All, codes, nat_tests, All-tail, Operands, Block}
use Rattle.c62_listing_reader.proofs.Common.{FunctionalUnit, unit_of, Parts, Name, has_no_block, Placed, Packed}
use Rattle.c62_listing_reader.proofs.Common.{StandAsWritten, IsPacketBlock, pause_line, idle_lines, cycle_lines}
use Rattle.c62_listing_reader.proofs.Common.{label_lines, block_lines, parted_lines, all_lines, Part, part_of, Draft}
use Rattle.c62_listing_reader.proofs.Common.{with_pause, jump_to, parts_spelling, draft_of}
use Rattle.c62_insn.specs.Spelling.{operands_spelling}
use Rattle.std.proofs.lemmas.Grind.{replicate_next}

-- ---- the lines of a block as it is read

abbrev pub unit_text : (ℕ → List ℕ) → Parts → Option FunctionalUnit → List ℕ
unit_text name parts None = []
unit_text name parts (Some unit) = parts_spelling name parts unit

abbrev pub part_text : (ℕ → List ℕ) → Part → List ℕ
part_text name part = unit_text name part.parts part.parts.unit

abbrev pub part_lines : (ℕ → List ℕ) → ℕ → Part → List (List ℕ)
part_lines name next part =
    if nat_lt part.cycle next then (codes "|| " ++ part_text name part) ∷ []
    else idle_lines (part.cycle - next) ++ (codes "   " ++ part_text name part) ∷ []

-- the lines up to the last instruction
unfoldable pub head_lines : (ℕ → List ℕ) → ℕ → List Part → List (List ℕ)
head_lines name next [] = []
head_lines name next (part ∷ parts) = part_lines name next part ++ head_lines name (part.cycle + 1) parts

-- the cycle behind the last instruction
unfoldable pub next_after : ℕ → List Part → ℕ
next_after next [] = next
next_after next (part ∷ parts) = next_after (part.cycle + 1) parts

abbrev pub idle_of : Draft → ℕ
idle_of draft = draft.cycles - next_after 0 draft.placed

abbrev pub draft_lines : (ℕ → List ℕ) → Draft → List (List ℕ)
draft_lines name draft = label_lines draft.label ++ (head_lines name 0 draft.placed ++ idle_lines (idle_of draft))

-- ---- they are the lines of the packet block

cycles_same : (name : ℕ → List ℕ) (next cycles : ℕ) (placed : List Placed) → StandAsWritten placed
    → cycle_lines name next cycles placed ≡ head_lines name next (map part_of placed) ++ idle_lines
    (cycles - next_after next (map part_of placed))
unfolding head_lines next_after
cycles_same name next cycles [] written = refl
cycles_same name next cycles (p ∷ placed) written =
    let here : unit_of p.insn ≡ Some p.unit = written 0 p (omega arith) in
    let rest = cycles_same name (p.cycle + 1) cycles placed
    (All-tail (λ (q : Placed). unit_of q.insn ≡ Some q.unit) p placed written) in
    grind (arith, here, rest, append_assoc {A = List ℕ})

block_same : (name : ℕ → List ℕ) (block : Packed) → IsPacketBlock block
    → block_lines name block ≡ draft_lines name (draft_of block)
block_same name block is = rw (cycles_same name 0 block.cycles block.placed is.as_written) refl

pub draft_parted : (ℕ → List ℕ) → List Draft → List (List ℕ)
draft_parted name [] = []
draft_parted name (draft ∷ drafts) = [] ∷ draft_lines name draft ++ draft_parted name drafts

abbrev pub draft_all : (ℕ → List ℕ) → List Draft → List (List ℕ)
draft_all name [] = []
draft_all name (draft ∷ drafts) = draft_lines name draft ++ draft_parted name drafts

parted_same : (name : ℕ → List ℕ) (packets : List Packed) → All IsPacketBlock packets
    → parted_lines name packets ≡ draft_parted name (map draft_of packets)
unfolding draft_parted
parted_same name [] are = refl
parted_same name (block ∷ packets) are =
    rw (
      block_same name block (are 0 block (omega arith)),
      parted_same name packets
          (All-tail IsPacketBlock block packets are),
    ) refl

pub all_same : (name : ℕ → List ℕ) (packets : List Packed) → All IsPacketBlock packets
    → all_lines name packets ≡ draft_all name (map draft_of packets)
all_same name [] are = refl
all_same name (block ∷ packets) are =
    rw (
      block_same name block (are 0 block (omega arith)),
      parted_same name packets
          (All-tail IsPacketBlock block packets are),
    ) refl

-- ---- a block behind others

-- the lines of blocks that are over, each with the empty line behind it
unfoldable pub begun_lines : (ℕ → List ℕ) → List Draft → List (List ℕ)
begun_lines name [] = []
begun_lines name (draft ∷ drafts) = draft_lines name draft ++ [] ∷ begun_lines name drafts

parted_last : (name : ℕ → List ℕ) (drafts : List Draft) (last : Draft)
    → [] ∷ (begun_lines name drafts ++ draft_lines name last) ≡ draft_parted name (drafts ++ last ∷ [])
unfolding begun_lines draft_parted
parted_last name [] last = grind (arith, append-nil {A = List ℕ})
parted_last name (draft ∷ drafts) last = grind
    (arith, append_assoc (draft_lines name draft), parted_last name drafts last)

pub all_last : (name : ℕ → List ℕ) (drafts : List Draft) (last : Draft)
    → begun_lines name drafts ++ draft_lines name last ≡ draft_all name (drafts ++ last ∷ [])
unfolding begun_lines draft_parted
all_last name [] last = grind (arith, append-nil {A = List ℕ})
all_last name (draft ∷ drafts) last = grind (arith, append_assoc (draft_lines name draft), parted_last name drafts last)

pub begun_last : (name : ℕ → List ℕ) (drafts : List Draft) (last : Draft)
    → begun_lines name (drafts ++ last ∷ []) ≡ (begun_lines name drafts ++ draft_lines name last) ++ [] ∷ []
unfolding begun_lines
begun_last name [] last = refl
begun_last name (draft ∷ drafts) last = grind
    (arith, append_assoc (draft_lines name draft), begun_last name drafts last)

-- ---- cycles without instructions

abbrev pub rest_line : ℕ → List (List ℕ)
rest_line rest = if rest == 0 then [] else pause_line rest ∷ []

pub rest_is : (n : ℕ) → 1 ≤ n → rest_line n ≡ pause_line n ∷ []
rest_is n some = grind (arith, nat_tests)

idle_more : (cycles n : ℕ) → cycles % 9 ≡ 0 → 1 ≤ n → n < 9
    → idle_lines (cycles + n) ≡ idle_lines cycles ++ pause_line n ∷ []
idle_more cycles n whole some few =
    let whole_now : (cycles + n) / 9 ≡ cycles / 9 = omega arith in
    let left_now : (cycles + n) % 9 ≡ n = omega arith in
    rw (whole_now, left_now, whole, rest_is n some) (simp append-nil)

idle_nine : (cycles : ℕ) → cycles % 9 ≡ 0 → idle_lines (cycles + 9) ≡ idle_lines cycles ++ pause_line 9 ∷ []
idle_nine cycles whole =
    let whole_now : (cycles + 9) / 9 ≡ cycles / 9 + 1 = omega arith in
    let left_now : (cycles + 9) % 9 ≡ 0 = omega arith in
    rw (whole_now, left_now, whole) (simp append-nil (replicate_next (cycles / 9) (pause_line 9)))

-- a pause behind whole nines is one line more
pause_more : (cycles n : ℕ) → cycles % 9 ≡ 0 → 1 ≤ n → n ≤ 9
    → idle_lines (cycles + n) ≡ idle_lines cycles ++ pause_line n ∷ []
pause_more cycles n whole some few = grind (arith, nat_tests, idle_more cycles n whole some, idle_nine cycles whole)

-- ---- the cycle behind the last instruction

pub next_last : (next : ℕ) (parts : List Part) (last : Part) → next_after next (parts ++ last ∷ []) ≡ last.cycle + 1
unfolding next_after
next_last next [] last = refl
next_last next (part ∷ parts) last = next_last (part.cycle + 1) parts last

pub next_low : (next cycles : ℕ) (parts : List Part) → next ≤ cycles → All (λ part. part.cycle < cycles) parts
    → next_after next parts ≤ cycles
unfolding next_after
next_low next cycles [] le below = le
next_low next cycles (part ∷ parts) le below =
    let here : part.cycle < cycles = below 0 part (omega arith) in
    next_low (part.cycle + 1) cycles parts (omega (arith, here))
    (All-tail (λ (p : Part). p.cycle < cycles) part parts below)

heads_last : (name : ℕ → List ℕ) (next : ℕ) (parts : List Part) (last : Part)
    → head_lines name next (parts ++ last ∷ []) ≡ head_lines name next parts ++ part_lines name (next_after next parts)
    last
unfolding head_lines next_after
heads_last name next [] last = append-nil (part_lines name next last)
heads_last name next (part ∷ parts) last = grind
    (arith, heads_last name (part.cycle + 1) parts last, append_assoc (part_lines name next part))

-- ---- how an instruction is spelled

-- a name that a branch goes by is that of its label
free_operands : (name other : ℕ → List ℕ) (parts : Parts) (unit : FunctionalUnit) (operands : Operands)
    → parts.operands ≡ operands
    → has_no_block operands ≡ true
    → operands_spelling name parts.op unit.letter operands ≡ operands_spelling other parts.op unit.letter operands
free_operands name other parts unit operands is free = grind (arith, nat_tests)

pub does_text : (name other : ℕ → List ℕ) (parts : Parts) (unit : FunctionalUnit) → has_no_block parts.operands ≡ true
    → parts_spelling name parts unit ≡ parts_spelling other parts unit
does_text name other parts unit free = rw (free_operands name other parts unit parts.operands refl free) refl

pub jumps_text : (name : ℕ → List ℕ) (aim : Name → ℕ) (parts : Parts) (target : Name) (unit : FunctionalUnit)
    → parts.operands ≡ Block 0
    → name (aim target) ≡ target
    → parts_spelling (λ _. target) parts unit ≡ parts_spelling name (jump_to aim parts target) unit
jumps_text name aim parts target unit is named = rw (is, named) refl

-- ---- what a line adds to its block

abbrev pub Adds : (ℕ → List ℕ) → Draft → List ℕ → Draft → Type 0
Adds name old line new = draft_lines name new ≡ draft_lines name old ++ line ∷ []

pub pause_adds : (name : ℕ → List ℕ) (n : ℕ) (draft : Draft) → next_after 0 draft.placed ≤ draft.cycles
    → idle_of draft % 9 ≡ 0 → 1 ≤ n → n ≤ 9
    → Adds name draft (pause_line n) (with_pause n draft)
pause_adds name n draft low whole some few =
    let more : draft.cycles + n - next_after 0 draft.placed ≡ idle_of draft + n = omega (arith, low) in
    rw (more, pause_more (idle_of draft) n whole some few) (simp append_assoc)

abbrev with_last : Draft → ℕ → Part → Draft
with_last draft cycles part = record { label = draft.label; cycles = cycles; placed = draft.placed ++ part ∷ [] }

-- the lines of a block with one instruction more, which stands in the last cycle
last_lines : (name : ℕ → List ℕ) (draft : Draft) (cycles : ℕ) (part : Part) → part.cycle + 1 ≡ cycles
    → draft_lines name (with_last draft cycles part) ≡ label_lines draft.label ++
    (head_lines name 0 draft.placed ++ part_lines name (next_after 0 draft.placed) part)
last_lines name draft cycles part is =
    let none : cycles - next_after 0 (draft.placed ++ part ∷ []) ≡ 0 = omega (arith, next_last 0 draft.placed part, is)
    in
    grind (arith, ap idle_lines none, heads_last name 0 draft.placed part, append-nil {A = List ℕ})

pub first_adds : (name : ℕ → List ℕ) (draft : Draft) (part : Part) → part.cycle ≡ draft.cycles
    → next_after 0 draft.placed ≤ draft.cycles
    → Adds name draft (codes "   " ++ part_text name part) (with_last draft (draft.cycles + 1) part)
first_adds name draft part is low =
    let test : nat_lt part.cycle (next_after 0 draft.placed) ≡ false = grind (arith, nat_tests) in
    rw (last_lines name draft (draft.cycles + 1) part (ap (λ (n : ℕ). n + 1) is), test, is) (simp append_assoc)

pub beside_adds : (name : ℕ → List ℕ) (draft : Draft) (part : Part) → part.cycle + 1 ≡ draft.cycles
    → next_after 0 draft.placed ≡ draft.cycles
    → Adds name draft (codes "|| " ++ part_text name part) (with_last draft draft.cycles part)
beside_adds name draft part is full =
    let test : nat_lt part.cycle (next_after 0 draft.placed) ≡ true = grind (arith, nat_tests) in
    let none : idle_of draft ≡ 0 = omega (arith, full) in
    rw (last_lines name draft draft.cycles part is, test, none) (simp (append_assoc, append-nil))
