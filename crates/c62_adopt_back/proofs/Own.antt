-- A listing is its own code.
use Rattle.c62_adopt_back.proofs.Common.{nat_tests, arith, ◌≡◌, ℕ, zero, suc, ◌+◌, ◌-◌, ◌/◌, ◌%◌, ◌<◌, ◌≤◌, List, []}
use Rattle.c62_adopt_back.proofs.Common.{◌∷◌, ◌++◌, length, Bool, true, false, Option, Some, None, refl, ap, ◌∙◌}
use Rattle.c62_adopt_back.proofs.Common.{codes, nat_lt, replicate, if◌then◌else◌, All, All-tail, AllByRecursion}
use Rattle.c62_adopt_back.proofs.Common.{list_all, Name, Placed, Packed, IsWritable}
use Rattle.c62_adopt_back.proofs.Common.{op_of, operands_of, spelling, all_lines, block_lines, cycle_lines, idle_lines}
use Rattle.c62_adopt_back.proofs.Common.{label_lines, parted_lines, pause_line, Nothing, Operands, Parts, Pause}
use Rattle.std.specs.Prelude.{decimal}
use Rattle.std.specs.Fmt.{digits}
use Rattle.std.proofs.Common.{Ok, ◌&&◌}
use Rattle.std.proofs.lemmas.Bool.{agree_below_at, and_parts}
use Rattle.std.proofs.lemmas.List.Folds.{list_all-append}
use Rattle.c62_op.specs.declared.operands.Operands.TheVariants.{Block, Three}
use Rattle.c62_op.specs.declared.operands.Op.{Op}
use Rattle.c62_op.specs.declared.operands.Op.TheVariants.{Add}
use Rattle.c62_op.specs.Table.{mnemonic_of}
use Rattle.c62_insn.specs.declared.insn.Insn.{Insn}
use Rattle.c62_insn.specs.Insn.{cond_of}
use Rattle.c62_insn.specs.Spelling.{condition_spelling, operands_spelling, unit_spelling}
use Rattle.c62_op.specs.declared.register.Cond.{Cond as Condition}
use Rattle.c62_op.specs.declared.register.Unit.{Unit as FunctionalUnit}
use Rattle.c62_token.specs.Number.{is_label}
use Rattle.c62_token.specs.Token.{begins, is_word_byte}
use Rattle.c62_line.specs.Line.{Says, is_star, label_field, label_front}
use Rattle.c62_line.specs.Laws.{parts_on, says_on, says_with}
use Rattle.c62_line.proofs.SpelledOperands.{label_parts}
use Rattle.c62_listing.specs.Listing.{placed_lines}
use Rattle.c62_listing_reader.proofs.DraftLines.{rest_line}
use Rattle.c62_adopt_line.specs.Line.{behind_colon, line_said, line_says}
use Rattle.c62_adopt_line.proofs.ListedLines.{instruction_reads, label_reads, pause_reads}
use Rattle.c62_adopt_spell.specs.Laws.{stays}
use Rattle.c62_adopt_spell.specs.Line.{is_nothing}
use Rattle.c62_adopt_code.specs.Statement.{is_remark}
use Rattle.c62_adopt_code.specs.Role.{role_of, Acts, Silent, statement_role}
use Rattle.c62_adopt_code.specs.Laws.{is_plain, is_plain_role}
use Rattle.c62_adopt_code.proofs.RoleLemmas.{acts_by, silent_by}
use Rattle.c62_listing_reader.proofs.BlocksLemmas.{IsSmall}
use Rattle.c62_op.specs.declared.set.InstructionSet.{InstructionSet}

-- ---- a line

-- a line is its own code, and stands for itself
abbrev is_own : InstructionSet → List ℕ → Bool
is_own isa bytes = is_plain bytes && stays isa bytes

acts_own : (isa : InstructionSet) (bytes : List ℕ) → role_of bytes ≡ Acts → stays isa bytes ≡ true
    → is_own isa bytes ≡ true
acts_own isa bytes is stay = rw (ap is_plain_role is, stay) refl

silent_own : (isa : InstructionSet) (bytes : List ℕ) → role_of bytes ≡ Silent → stays isa bytes ≡ true
    → is_own isa bytes ≡ true
silent_own isa bytes is stay = rw (ap is_plain_role is, stay) refl

said_stays : (isa : InstructionSet) (b : ℕ) (bytes : List ℕ) (beside : Bool) (says : Says)
    → line_says isa (b ∷ bytes) ≡ Ok (line_said beside None says) → is_nothing says ≡ false
    → stays isa (b ∷ bytes) ≡ true
said_stays isa b bytes beside says is some = rw (is, some) refl

label_stays : (isa : InstructionSet) (bytes : List ℕ) (label : Name)
    → line_says isa bytes ≡ Ok (line_said false (Some label) Nothing)
    → stays isa bytes ≡ true
label_stays isa [] label is = refl
label_stays isa (b ∷ bytes) label is = rw is refl

is_something : (name : ℕ → Name) (parts : Parts) (operands : Operands)
    → is_nothing (says_with name parts operands) ≡ false
is_something name parts (Block number) = refl
is_something name parts (Three a b d) = refl
is_something name parts _ = refl

says_something : (name : ℕ → Name) (parts : Parts) (operands : Operands) → says_with name parts operands ≡ Nothing → ⊥
says_something name parts (Block number) is = absurd cc
says_something name parts (Three a b d) is = absurd cc
says_something name parts _ is = absurd cc

-- what an instruction begins with is no comment's beginning
named_first : (op : Op) (unit operands : List ℕ)
    → is_remark (codes "   " ++ (mnemonic_of op ++ codes " " ++ unit ++ codes " " ++ operands)) ≡ false
named_first Add unit operands = refl
named_first _ unit operands = refl

spelled_first : (condition : Option Condition) (op : Op) (unit operands : List ℕ)
    → is_remark (codes "   " ++
    (condition_spelling condition ++ mnemonic_of op ++ codes " " ++ unit ++ codes " " ++ operands)) ≡ false
spelled_first None op unit operands = named_first op unit operands
spelled_first (Some c) op unit operands = refl

first_own : (isa : InstructionSet) (name : ℕ → Name) (p : Placed) → IsWritable isa name p
    → is_own isa (codes "   " ++ spelling name p.insn p.unit) ≡ true
first_own isa name p is =
    acts_own isa (codes "   " ++ spelling name p.insn p.unit)
    (acts_by isa (codes "   " ++ spelling name p.insn p.unit) (says_on name p.insn p.unit)
    (spelled_first (cond_of p.insn) (op_of p.insn)
    (unit_spelling (operands_of p.insn) p.unit)
    (operands_spelling name (op_of p.insn) p.unit.letter (operands_of p.insn))) refl
    (instruction_reads isa name p.insn p.unit is.taking is.names).0
    (says_something name (parts_on p.insn p.unit) (operands_of p.insn)))
    (said_stays isa 32 (codes "  " ++ spelling name p.insn p.unit) false (says_on name p.insn p.unit)
    (instruction_reads isa name p.insn p.unit is.taking is.names).0
    (is_something name (parts_on p.insn p.unit) (operands_of p.insn)))

beside_plain : (text : List ℕ) → is_plain (codes "|| " ++ text) ≡ true
unfolding role_of
beside_plain text = refl

beside_own : (isa : InstructionSet) (name : ℕ → Name) (p : Placed) → IsWritable isa name p
    → is_own isa (codes "|| " ++ spelling name p.insn p.unit) ≡ true
beside_own isa name p is =
    let stay = said_stays isa 124 (codes "| " ++ spelling name p.insn p.unit) true (says_on name p.insn p.unit)
    (instruction_reads isa name p.insn p.unit is.taking is.names).1
    (is_something name (parts_on p.insn p.unit) (operands_of p.insn)) in
    rw (beside_plain (spelling name p.insn p.unit), stay) refl

pause_first : (n : ℕ) → is_remark (codes "   NOP " ++ decimal n) ≡ false
pause_first n = refl

pause_own : (isa : InstructionSet) (n : ℕ) → 1 ≤ n → n ≤ 9 → is_own isa (pause_line n) ≡ true
pause_own isa n some few =
    acts_own isa (pause_line n)
    (acts_by isa (pause_line n) (Pause n) (pause_first n) refl (pause_reads isa n some few) (λ none. absurd cc))
    (said_stays isa 32 (codes "  NOP " ++ decimal n) false (Pause n) (pause_reads isa n some few) refl)

empty_plain : is_plain [] ≡ true
unfolding role_of statement_role label_field label_front
empty_plain = refl

empty_own : (isa : InstructionSet) → is_own isa [] ≡ true
empty_own isa = rw empty_plain refl

behind_word : (text : List ℕ) → list_all is_word_byte text ≡ true → behind_colon (text ++ codes ":") ≡ []
behind_word [] all = refl
behind_word (b ∷ text) all = grind (arith, nat_tests, behind_word text)

no_remark : (text : List ℕ) → list_all is_word_byte text ≡ true → is_remark (text ++ codes ":") ≡ false
no_remark [] all = refl
no_remark (b ∷ text) all = grind (arith, nat_tests)

no_star : (text : List ℕ) → list_all is_word_byte text ≡ true → begins is_star (text ++ codes ":") ≡ false
no_star [] all = refl
no_star (b ∷ text) all = grind (arith, nat_tests)

label_own : (isa : InstructionSet) (label : Name) → is_label label ≡ true → is_own isa (label ++ codes ":") ≡ true
label_own isa label is =
    let words = (label_parts label is).1 in
    silent_own isa (label ++ codes ":")
    (silent_by isa (label ++ codes ":") label (no_remark label words) (no_star label words) (label_reads isa label is)
    (behind_word label words))
    (label_stays isa (label ++ codes ":") label (label_reads isa label is))

-- ---- the lines of a block

nines_own : (isa : InstructionSet) (nines : ℕ) → list_all (is_own isa) (replicate nines (pause_line 9)) ≡ true
nines_own isa zero = refl
nines_own isa (suc nines) = rw (pause_own isa 9 (omega arith) (omega arith)) (nines_own isa nines)

rest_own : (isa : InstructionSet) (rest : ℕ) → rest < 9 → list_all (is_own isa) (rest_line rest) ≡ true
rest_own isa rest small = grind (arith, nat_tests, λ (some : 1 ≤ rest). pause_own isa rest some (omega (arith, small)))

idle_own : (isa : InstructionSet) (idle : ℕ) → list_all (is_own isa) (idle_lines idle) ≡ true
idle_own isa idle =
    list_all-append (is_own isa) (replicate (idle / 9) (pause_line 9)) (rest_line (idle % 9))
    ∙ rw (nines_own isa (idle / 9), rest_own isa (idle % 9) (omega arith)) refl

placed_own : (isa : InstructionSet) (name : ℕ → Name) (b : Bool) (idle : ℕ) (p : Placed) → IsWritable isa name p
    → list_all (is_own isa)
    (if b then (codes "|| " ++ spelling name p.insn p.unit) ∷ [] else idle_lines idle ++
    (codes "   " ++ spelling name p.insn p.unit) ∷ []) ≡ true
placed_own isa name true idle p is = rw (beside_own isa name p is) refl
placed_own isa name false idle p is =
    list_all-append (is_own isa) (idle_lines idle) ((codes "   " ++ spelling name p.insn p.unit) ∷ [])
    ∙ rw (idle_own isa idle, first_own isa name p is) refl

cycles_own : (isa : InstructionSet) (name : ℕ → Name) (next cycles : ℕ) (placed : List Placed)
    → All (IsWritable isa name) placed
    → list_all (is_own isa) (cycle_lines name next cycles placed) ≡ true
cycles_own isa name next cycles [] are = idle_own isa (cycles - next)
cycles_own isa name next cycles (p ∷ placed) are =
    let here = placed_own isa name (nat_lt p.cycle next) (p.cycle - next) p (are 0 p (omega arith)) in
    let rest = cycles_own isa name (p.cycle + 1) cycles placed (All-tail (IsWritable isa name) p placed are) in
    rw (list_all-append (is_own isa) (placed_lines name next p) (cycle_lines name (p.cycle + 1) cycles placed), here)
    rest

labels_own : (isa : InstructionSet) (label : Option Name) → ((l : Name) → label ≡ Some l → is_label l ≡ true)
    → list_all (is_own isa) (label_lines label) ≡ true
labels_own isa None is = refl
labels_own isa (Some label) is = rw (label_own isa label (is label refl)) refl

-- ---- all lines

block_own : (isa : InstructionSet) (name : ℕ → Name) (block : Packed) → IsSmall isa name block
    → list_all (is_own isa) (block_lines name block) ≡ true
block_own isa name block is =
    list_all-append (is_own isa) (label_lines block.label) (cycle_lines name 0 block.cycles block.placed)
    ∙ rw (labels_own isa block.label is.label, cycles_own isa name 0 block.cycles block.placed is.writable) refl

parted_own : (isa : InstructionSet) (name : ℕ → Name) (blocks : List Packed) → AllByRecursion (IsSmall isa name) blocks
    → list_all (is_own isa) (parted_lines name blocks) ≡ true
parted_own isa name [] are = refl
parted_own isa name (block ∷ blocks) are =
    rw (empty_own isa) (list_all-append (is_own isa) (block_lines name block) (parted_lines name blocks)
    ∙ rw (block_own isa name block are.0, parted_own isa name blocks are.1) refl)

all_own : (isa : InstructionSet) (name : ℕ → Name) (packets : List Packed) → AllByRecursion (IsSmall isa name) packets
    → list_all (is_own isa) (all_lines name packets) ≡ true
all_own isa name [] are = refl
all_own isa name (block ∷ packets) are =
    list_all-append (is_own isa) (block_lines name block) (parted_lines name packets)
    ∙ rw (block_own isa name block are.0, parted_own isa name packets are.1) refl

-- ---- both parts

both_own : (isa : InstructionSet) (lines : List (List ℕ)) → list_all (is_own isa) lines ≡ true
    → (list_all is_plain lines ≡ true)
    × (list_all (stays isa) lines ≡ true)
both_own isa [] all = (refl, refl)
both_own isa (line ∷ lines) all =
    let parts = and_parts (is_own isa line) (list_all (is_own isa) lines) all in
    let here = and_parts (is_plain line) (stays isa line) parts.0 in
    let rest = both_own isa lines parts.1 in
    (rw (here.0, rest.0) refl, rw (here.1, rest.1) refl)

pub all_plain : (isa : InstructionSet) (name : ℕ → Name) (packets : List Packed)
    → AllByRecursion (IsSmall isa name) packets
    → list_all is_plain (all_lines name packets) ≡ true
all_plain isa name packets are = (both_own isa (all_lines name packets) (all_own isa name packets are)).0

pub all_stay : (isa : InstructionSet) (name : ℕ → Name) (packets : List Packed)
    → AllByRecursion (IsSmall isa name) packets
    → list_all (stays isa) (all_lines name packets) ≡ true
all_stay isa name packets are = (both_own isa (all_lines name packets) (all_own isa name packets are)).1
