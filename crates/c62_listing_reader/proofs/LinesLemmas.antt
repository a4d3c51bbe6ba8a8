-- The lines of a listed block, and their labels.
use Rattle.c62_listing_reader.proofs.Common.{nat_tests, arith, ◌≡◌, ℕ, zero, suc, ◌+◌, ◌-◌, ◌/◌, ◌%◌, ◌<◌, ◌≤◌, List}
use Rattle.c62_listing_reader.proofs.Common.{[], ◌∷◌, ◌++◌, length, Option, Some, None, Bool, true, false, refl, subst}
use Rattle.c62_listing_reader.proofs.Common.{append_assoc, length-append, ◌&&◌, nat_lt, if◌then◌else◌, is_none, All}
use Rattle.c62_listing_reader.proofs.Common.{codes, replicate, AllByRecursion, flat_map, list_all, list_any, slice_get}
use Rattle.c62_listing_reader.proofs.Common.{option_to_list, bytes_eq, All-tail, list_all-append, none-some, spelling}
use Rattle.c62_listing_reader.proofs.Common.{Says, Nothing, Pause, is_label, label_field, Name, is_among, label_is}
use Rattle.c62_listing_reader.proofs.Common.{label_back, Placed, Packed, packet_labels, pause_line, idle_lines}
use Rattle.c62_listing_reader.proofs.Common.{cycle_lines, label_lines, block_lines, parted_lines, all_lines, Front}
use Rattle.c62_listing_reader.proofs.Common.{First, Beside, is_empty, named, names_in, labels_of, number_of}
use Rattle.c62_listing_reader.proofs.Common.{bytes_eq-Decides}
use Rattle.std.specs.List.{IsDistinct}
use Rattle.c62_listing.specs.Listing.{placed_lines}
use Rattle.c62_listing_reader.proofs.DraftLines.{rest_line}
use Rattle.c62_listing_reader.proofs.ToldLines.{empty_field}
use Rattle.c62_listing_reader.proofs.UntoldLemmas.{IsPlain, are_allowed, beside_plain, first_plain, line_read}
use Rattle.c62_listing_reader.proofs.UntoldLemmas.{pause_plain}
use Rattle.c62_listing_reader.proofs.BackLemmas.{IsWritable}
use Rattle.c62_listing_reader.proofs.BlocksLemmas.{HasLines, is_line, IsSmall}
use Rattle.c62_line.specs.Laws.{says_on}
use Rattle.c62_listing_reader.proofs.NamedLemmas.{at_seam}
use Rattle.c62_op.specs.declared.set.InstructionSet.{InstructionSet}

-- ---- the lines of a block but its label

abbrev is_plain : List ℕ → Bool
is_plain bytes = is_line bytes && is_none (label_field bytes)

plain_by : (isa : InstructionSet) (bytes : List ℕ) (front : Front) (says : Says) → IsPlain isa bytes front says
    → is_plain bytes ≡ true
plain_by isa bytes front says is = grind (arith, nat_tests)

nines_plain : InstructionSet → (nines : ℕ) → list_all is_plain (replicate nines (pause_line 9)) ≡ true
nines_plain isa zero = refl
nines_plain isa (suc nines) = grind (
  arith,
  plain_by isa (pause_line 9) First (Pause 9)
      (pause_plain isa 9 (omega arith) (omega arith)),
  nines_plain isa nines,
)

rest_plain : InstructionSet → (rest : ℕ) → rest < 9 → list_all is_plain (rest_line rest) ≡ true
rest_plain isa rest small =
    grind (
      arith,
      nat_tests,
      λ (some : 1 ≤ rest). plain_by isa (pause_line rest) First (Pause rest)
          (pause_plain isa rest some (omega (arith, small))),
    )

idle_plain : InstructionSet → (idle : ℕ) → list_all is_plain (idle_lines idle) ≡ true
idle_plain isa idle = grind (
  arith,
  list_all-append is_plain (replicate (idle / 9) (pause_line 9)),
  nines_plain isa (idle / 9),
  rest_plain isa
      (idle % 9),
)

placed_by : (isa : InstructionSet) (name : ℕ → List ℕ) (b : Bool) (idle : ℕ) (p : Placed) → IsWritable isa name p
    → list_all is_plain
    (if b then (codes "|| " ++ spelling name p.insn p.unit) ∷ [] else idle_lines idle ++
    (codes "   " ++ spelling name p.insn p.unit) ∷ []) ≡ true
placed_by isa name b idle p is =
    grind (
      arith,
      nat_tests,
      list_all-append is_plain (idle_lines idle),
      idle_plain isa idle,
      plain_by isa (codes "|| " ++ spelling name p.insn p.unit) Beside (says_on name p.insn p.unit)
          (beside_plain isa name p.insn p.unit is.taking is.names),
      plain_by isa (codes "   " ++ spelling name p.insn p.unit) First (says_on name p.insn p.unit)
          (first_plain isa name p.insn p.unit is.taking is.names),
    )

cycles_plain : (isa : InstructionSet) (name : ℕ → List ℕ) (next cycles : ℕ) (placed : List Placed)
    → All (IsWritable isa name) placed
    → list_all is_plain (cycle_lines name next cycles placed) ≡ true
cycles_plain isa name next cycles [] are = idle_plain isa (cycles - next)
cycles_plain isa name next cycles (p ∷ placed) are =
    let here = placed_by isa name (nat_lt p.cycle next) (p.cycle - next) p (are 0 p (omega arith)) in
    let rest = cycles_plain isa name (p.cycle + 1) cycles placed (All-tail (IsWritable isa name) p placed are) in
    rw (list_all-append is_plain (placed_lines name next p) (cycle_lines name (p.cycle + 1) cycles placed), here) rest

plain_lines : (lines : List (List ℕ)) → list_all is_plain lines ≡ true → list_all is_line lines ≡ true
plain_lines [] all = refl
plain_lines (bytes ∷ lines) all = grind (arith, nat_tests, plain_lines lines)

-- ---- all lines of a block

filled_label : (label : Name) → is_empty (label ++ 58 ∷ []) ≡ false
filled_label [] = refl
filled_label (b ∷ label) = refl

label_line : InstructionSet → (label : Name) → is_label label ≡ true → is_line (label ++ codes ":") ≡ true
label_line isa label is =
    let read = line_read isa (label ++ codes ":") (Some label) Nothing (label_back isa label is).0 in
    grind (arith, nat_tests, read.allowed, filled_label label)

some_cycles : (name : ℕ → List ℕ) (cycles : ℕ) (placed : List Placed) → 0 < length placed
    → 0 < length (cycle_lines name 0 cycles placed)
some_cycles name cycles [] some = absurd (omega (arith, some))
some_cycles name cycles (p ∷ placed) some = grind (arith, nat_tests, length-append {A = List ℕ})

pub has_lines : (isa : InstructionSet) (name : ℕ → List ℕ) (block : Packed)
    → ((l : Name) → block.label ≡ Some l → is_label l ≡ true)
    → (block.label ≡ None → 0 < length block.placed)
    → All (IsWritable isa name) block.placed → HasLines name block
has_lines isa name block is begun are = record {
  some = grind (arith, nat_tests, some_cycles name block.cycles block.placed, begun);
  lines = grind (
    arith,
    nat_tests,
    label_line isa,
    is,
    plain_lines (cycle_lines name 0 block.cycles block.placed) (cycles_plain isa name 0 block.cycles block.placed are),
  );
}

-- all lines of a listing may be read
pub all_allowed : (name : ℕ → List ℕ) (packets : List Packed) → AllByRecursion (HasLines name) packets
    → list_all are_allowed (all_lines name packets) ≡ true
all_allowed name [] has = refl
all_allowed name (block ∷ packets) has =
    grind (
      arith,
      list_all-append are_allowed (block_lines name block),
      allowed (block_lines name block) has.0.lines,
      parted packets has.1,
    )
  where
    allowed : (lines : List (List ℕ)) → list_all is_line lines ≡ true → list_all are_allowed lines ≡ true
    allowed [] all = refl
    allowed (bytes ∷ lines) all = grind (arith, nat_tests, allowed lines)

    parted : (blocks : List Packed) → AllByRecursion (HasLines name) blocks
        → list_all are_allowed (parted_lines name blocks) ≡ true
    parted [] has = refl
    parted (b ∷ blocks) has =
        grind (
          arith,
          list_all-append are_allowed (block_lines name b),
          allowed (block_lines name b) has.0.lines,
          parted
              blocks has.1,
        )

-- ---- their labels

plain_names : (number : ℕ) (lines more : List (List ℕ)) → list_all is_plain lines ≡ true
    → names_in number (lines ++ more) ≡ names_in number more
plain_names number [] more all = refl
plain_names number (bytes ∷ lines) more all = grind (arith, nat_tests, plain_names number lines more)

-- the labels of blocks, with their numbers from this one on
pub names_from : ℕ → List (Option Name) → List (Name × ℕ)
names_from number [] = []
names_from number (label ∷ labels) = named label number ++ names_from (number + 1) labels

label_names : InstructionSet → (number : ℕ) (label : Option Name) (more : List (List ℕ))
    → ((l : Name) → label ≡ Some l → is_label l ≡ true)
    → names_in number (label_lines label ++ more) ≡ named label number ++ names_in number more
label_names isa number None more is = refl
label_names isa number (Some label) more is = rw ((label_back isa label (is label refl)).1, filled_label label) refl

block_names : (isa : InstructionSet) (name : ℕ → List ℕ) (number : ℕ) (block : Packed) (more : List (List ℕ))
    → IsSmall isa name block
    → names_in number (block_lines name block ++ more) ≡ named block.label number ++ names_in number more
block_names isa name number block more is =
    let cycles : List (List ℕ) = cycle_lines name 0 block.cycles block.placed in
    rw (
      append_assoc (label_lines block.label) cycles more,
      label_names isa number block.label (cycles ++ more) is.label,
      plain_names number cycles more (cycles_plain isa name 0 block.cycles block.placed is.writable),
    ) refl

parted_names : (isa : InstructionSet) (name : ℕ → List ℕ) (number : ℕ) (blocks : List Packed)
    → AllByRecursion (IsSmall isa name) blocks
    → names_in number (parted_lines name blocks) ≡ names_from (number + 1) (packet_labels blocks)
unfolding names_from
parted_names isa name number [] are = refl
parted_names isa name number (block ∷ blocks) are =
    rw (
      empty_field,
      block_names isa name (number + 1) block (parted_lines name blocks) are.0,
      parted_names isa name
          (number + 1) blocks are.1,
    ) refl

pub all_names : (isa : InstructionSet) (name : ℕ → List ℕ) (packets : List Packed)
    → AllByRecursion (IsSmall isa name) packets
    → names_in 0 (all_lines name packets) ≡ names_from 0 (packet_labels packets)
unfolding names_from
all_names isa name [] are = refl
all_names isa name (block ∷ packets) are = rw
    (block_names isa name 0 block (parted_lines name packets) are.0, parted_names isa name 0 packets are.1) refl

-- ---- the number of a label

abbrev pub given : List (Option Name) → List Name
given labels = flat_map option_to_list labels

pub member_at : (P : Name → Type 0) (labels : List (Option Name)) (k : ℕ) (label : Name)
    → slice_get labels k ≡ Some (Some label)
    → AllByRecursion P (given labels) → P label
member_at P [] k label at all = absurd (none-some (Some label) at)
member_at P (None ∷ labels) zero label at all = absurd cc
member_at P (Some other ∷ labels) zero label at all = let same : other ≡ label = cc in subst P same all.0
member_at P (None ∷ labels) (suc k) label at all = member_at P labels k label at all
member_at P (Some other ∷ labels) (suc k) label at all = member_at P labels k label at all.1

pub record IsNumbered (names : List (Name × ℕ)) (label : Name) (block : ℕ) : Type 0 where
  pub known : is_among label (labels_of names) ≡ true
  pub number : number_of names label ≡ block

pub numbered : (labels : List (Option Name)) (start k : ℕ) (label : Name) → IsDistinct bytes_eq (given labels)
    → slice_get labels k ≡ Some (Some label)
    → IsNumbered (names_from start labels) label (start + k)
unfolding names_from IsDistinct
numbered [] start k label distinct at = absurd (none-some (Some label) at)
numbered (None ∷ labels) start zero label distinct at = absurd cc
numbered (Some other ∷ labels) start zero label distinct at =
    let same : other ≡ label = cc in
    let equal : bytes_eq other label ≡ true = (bytes_eq-Decides other label).1 same in
    record { known = grind (arith, equal); number = grind (arith, equal) }
numbered (None ∷ labels) start (suc k) label distinct at =
    let others = numbered labels (start + 1) k label distinct at in
    record { known = others.known; number = grind (arith, others.number) }
numbered (Some other ∷ labels) start (suc k) label distinct at =
    let apart : bytes_eq other label ≡ false = member_at (λ (y : Name). bytes_eq other y ≡ false) labels k label at
    distinct.0 in
    let others = numbered labels (start + 1) k label distinct.1 at in
    record { known = grind (arith, nat_tests, others.known); number = grind (arith, nat_tests, others.number) }

-- a label is none of those before it
pub before_free : (labels more : List (Option Name)) (label : Name)
    → IsDistinct bytes_eq (given (labels ++ Some label ∷ more))
    → list_any (label_is label) labels ≡ false
unfolding IsDistinct
before_free [] more label distinct = refl
before_free (None ∷ labels) more label distinct = before_free labels more label distinct
before_free (Some other ∷ labels) more label distinct =
    let apart : bytes_eq other label ≡ false =
    member_at (λ (y : Name). bytes_eq other y ≡ false) (labels ++ Some label ∷ more) (length labels) label
    (at_seam labels (Some label) more) distinct.0 in
    grind (arith, nat_tests, apart, before_free labels more label distinct.1)
