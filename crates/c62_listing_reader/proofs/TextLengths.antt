-- How many bytes the lines of listed blocks have.
use Rattle.c62_listing_reader.proofs.Common.{nat_tests, arith, ◌≡◌, ℕ, zero, suc, ◌+◌, ◌-◌, ◌*◌, ◌/◌, ◌%◌, ◌<◌, ◌≤◌}
use Rattle.c62_listing_reader.proofs.Common.{List, [], ◌∷◌, ◌++◌, length, Option, Some, None, Bool, true, refl, ap, ◌∙◌}
use Rattle.c62_listing_reader.proofs.Common.{append-nil, length-append, nat_lt, if◌then◌else◌, All, codes, replicate}
use Rattle.c62_listing_reader.proofs.Common.{AllByRecursion, All-tail, spelling, is_label, Name, label_parts, Placed}
use Rattle.c62_listing_reader.proofs.Common.{Packed, pause_line, idle_lines, cycle_lines, label_lines, block_lines}
use Rattle.c62_listing_reader.proofs.Common.{parted_lines, all_lines, text_of, index_of-below}
use Rattle.std.proofs.lemmas.Bool.{leb-true}
use Rattle.std.proofs.lemmas.Fmt.{decimal_digit}
use Rattle.std.proofs.lemmas.Grind.{flat_map-append}
use Rattle.c62_listing.specs.Listing.{placed_lines}
use Rattle.c62_listing_reader.proofs.DraftLines.{rest_line}
use Rattle.c62_listing_reader.proofs.UntoldLemmas.{first_plain}
use Rattle.c62_listing_reader.proofs.BackLemmas.{AreBehind, IsWritable}
use Rattle.c62_listing_reader.proofs.BlocksLemmas.{IsSmall}
use Rattle.c62_read.specs.declared.limits.TheConstants.{MOST_BLOCKS}
use Rattle.c62_listing_reader.specs.declared.reader.TheConstants.{MOST_BYTES}
use Rattle.c62_op.specs.declared.set.InstructionSet.{InstructionSet}

-- ---- their bytes

abbrev text_length : List (List ℕ) → ℕ
text_length lines = length (text_of lines)

text_both : (lines more : List (List ℕ)) → text_length (lines ++ more) ≡ text_length lines + text_length more
text_both lines more =
    ap length (flat_map-append (λ (line : List ℕ). line ++ codes "\n") lines more)
    ∙ length-append (text_of lines) (text_of more)

text_one : (bytes : List ℕ) → text_length (bytes ∷ []) ≡ length bytes + 1
text_one bytes = ap length (append-nil (bytes ++ codes "\n")) ∙ length-append bytes (codes "\n")

text_first : (bytes : List ℕ) (lines : List (List ℕ))
    → text_length (bytes ∷ lines) ≡ length bytes + 1 + text_length lines
text_first bytes lines = omega (arith, text_both (bytes ∷ []) lines, text_one bytes)

pause_length : (n : ℕ) → n < 10 → length (pause_line n) ≡ 8
pause_length n small = ap (λ (digits : List ℕ). length (codes "   NOP " ++ digits)) (decimal_digit n small)

nines_length : (nines : ℕ) → text_length (replicate nines (pause_line 9)) ≤ 9 * nines
nines_length zero = omega arith
nines_length (suc nines) =
    omega (
      arith,
      text_first (pause_line 9) (replicate nines (pause_line 9)),
      pause_length 9 (omega arith),
      nines_length
          nines,
    )

rest_length : (rest : ℕ) → rest < 9 → text_length (rest_line rest) ≤ 9 * rest
rest_length rest small = grind (arith, nat_tests, text_one (pause_line rest), pause_length rest)

idle_length : (idle : ℕ) → text_length (idle_lines idle) ≤ 9 * idle
idle_length idle =
    omega (
      arith,
      text_both (replicate (idle / 9) (pause_line 9)) (rest_line (idle % 9)),
      nines_length (idle / 9),
      rest_length (idle % 9) (omega arith),
    )

insn_length : (isa : InstructionSet) (name : ℕ → List ℕ) (p : Placed) → IsWritable isa name p
    → length (spelling name p.insn p.unit) ≤ 252
insn_length isa name p is =
    let first = first_plain isa name p.insn p.unit is.taking is.names in
    omega (arith, first.fits, length-append (codes "   ") (spelling name p.insn p.unit))

placed_length : (isa : InstructionSet) (name : ℕ → List ℕ) (b : Bool) (idle : ℕ) (p : Placed) → IsWritable isa name p
    → text_length
    (if b then (codes "|| " ++ spelling name p.insn p.unit) ∷ [] else idle_lines idle ++
    (codes "   " ++ spelling name p.insn p.unit) ∷ []) ≤ 256 +
    (if b then 0 else 9 * idle)
placed_length isa name b idle p is =
    let line : List ℕ → List ℕ = λ start. start ++ spelling name p.insn p.unit in
    grind (
      arith,
      nat_tests,
      text_both (idle_lines idle),
      idle_length idle,
      text_one,
      length-append (codes "|| "),
      length-append (codes "   "),
      insn_length isa name p is,
    )

cycles_length : (isa : InstructionSet) (name : ℕ → List ℕ) (q : Placed) (cycles : ℕ) (placed : List Placed)
    → All (IsWritable isa name) placed
    → AreBehind q placed
    → All (λ p. p.cycle + 1 ≤ cycles) placed
    → q.cycle + 1 ≤ cycles
    → text_length (cycle_lines name (q.cycle + 1) cycles placed) ≤ 256 * length placed + 9 *
    (cycles - (q.cycle + 1))
unfolding AreBehind
cycles_length isa name q cycles [] are order within low = omega (arith, idle_length (cycles - (q.cycle + 1)))
cycles_length isa name q cycles (p ∷ placed) are order within low =
    let here : p.cycle + 1 ≤ cycles = within 0 p (omega arith) in
    let rest = cycles_length isa name p cycles placed (All-tail (IsWritable isa name) p placed are) order.1
    (All-tail (λ (r : Placed). r.cycle + 1 ≤ cycles) p placed within) here in
    let both = text_both (placed_lines name (q.cycle + 1) p) (cycle_lines name (p.cycle + 1) cycles placed) in
    let rises : q.cycle ≤ p.cycle = omega (arith, order.0, index_of-below q.unit, index_of-below p.unit) in
    let first = placed_length isa name (nat_lt p.cycle (q.cycle + 1)) (p.cycle - (q.cycle + 1)) p
    (are 0 p (omega arith)) in
    grind (arith, nat_tests, first, rest, both)

start_length : (isa : InstructionSet) (name : ℕ → List ℕ) (cycles : ℕ) (placed : List Placed)
    → All (IsWritable isa name) placed
    → ((p : Placed) (rest : List Placed) → placed ≡ p ∷ rest → AreBehind p rest)
    → All (λ p. p.cycle + 1 ≤ cycles) placed
    → text_length (cycle_lines name 0 cycles placed) ≤ 256 * length placed + 9 * cycles
start_length isa name cycles [] are order within = omega (arith, idle_length (cycles - 0))
start_length isa name cycles (p ∷ placed) are order within =
    let here : p.cycle + 1 ≤ cycles = within 0 p (omega arith) in
    let rest = cycles_length isa name p cycles placed (All-tail (IsWritable isa name) p placed are)
    (order p placed refl)
    (All-tail (λ (r : Placed). r.cycle + 1 ≤ cycles) p placed within) here in
    grind (
      arith,
      nat_tests,
      placed_length isa name (nat_lt p.cycle 0) (p.cycle - 0) p (are 0 p (omega arith)),
      rest,
      text_both (placed_lines name 0 p) (cycle_lines name (p.cycle + 1) cycles placed),
    )

label_length : (label : Option Name) → ((l : Name) → label ≡ Some l → is_label l ≡ true)
    → text_length (label_lines label) ≤ 34
label_length None is = omega arith
label_length (Some label) is =
    omega (
      arith,
      text_one (label ++ codes ":"),
      length-append label (codes ":"),
      leb-true (length label) 32
          (label_parts label (is label refl)).2,
    )

block_length : (isa : InstructionSet) (name : ℕ → List ℕ) (block : Packed) → IsSmall isa name block
    → text_length (block_lines name block) ≤ 84002
block_length isa name block is =
    let label = label_length block.label is.label in
    let start = start_length isa name block.cycles block.placed is.writable is.order is.within in
    omega (
      arith,
      text_both (label_lines block.label) (cycle_lines name 0 block.cycles block.placed),
      label,
      start,
      is.few,
      is.short,
    )

parted_length : (isa : InstructionSet) (name : ℕ → List ℕ) (blocks : List Packed)
    → AllByRecursion (IsSmall isa name) blocks
    → text_length (parted_lines name blocks) ≤ 84003 * length blocks
parted_length isa name [] are = omega arith
parted_length isa name (block ∷ blocks) are =
    omega (
      arith,
      text_first [] (block_lines name block ++ parted_lines name blocks),
      text_both (block_lines name block) (parted_lines name blocks),
      block_length isa name block are.0,
      parted_length isa name blocks are.1,
    )

pub all_length : (isa : InstructionSet) (name : ℕ → List ℕ) (packets : List Packed) → length packets ≤ MOST_BLOCKS
    → AllByRecursion (IsSmall isa name) packets
    → length (text_of (all_lines name packets)) ≤ MOST_BYTES
all_length isa name [] few are = omega arith
all_length isa name (block ∷ packets) few are =
    omega (
      arith,
      text_both (block_lines name block) (parted_lines name packets),
      block_length isa name block are.0,
      parted_length isa name packets are.1,
      few,
    )
