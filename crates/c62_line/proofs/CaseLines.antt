-- A line in small letters, but for an `X` behind a 0, says the same but for the case of labels. So do two lines that
-- differ in case only.
use Rattle.c62_line.proofs.Common.{◌≡◌, ℕ, false, cond, eqb, List, [], ◌∷◌, Option, refl, arith, is_ascii_digit}
use Rattle.c62_line.proofs.Common.{nat_tests, Side}
use Rattle.c62_line.proofs.Common.{Some, Result, Ok, Err, option_map, codes, Letter, Cause, Mnemonic}
use Rattle.c62_line.proofs.Common.{WrittenUnit, is_allowed, Word, is_dot, Says, has_colon, is_star, with_head}
use Rattle.c62_line.specs.Laws.{IsRecased, CaseSaysNothing, small_labels, small_says, target_in}
use Rattle.std.proofs.lemmas.List.{drop-map}
use Rattle.c62_op.specs.declared.register.Cond.{Cond as Condition}
use Rattle.c62_line.specs.Mnemonic.{mnemonic_named, operation_named, pseudo_named}
use Rattle.c62_line.specs.Unit.{is_t, is_x, letter_of, mark_of, side_numbered, unit_front, unit_of, unit_split}
use Rattle.c62_line.specs.Line.{label_field, fault_in}
use Rattle.c62_line.proofs.LabelFields.{field_is}
use Rattle.c62_line.specs.Line.{behind_unit, condition_front, head_of, instruction_of, label_front, line_of, rest_says}
use Rattle.c62_line.specs.Line.{with_rest}
use Rattle.c62_token.proofs.TokenLemmas.{on_test}
use Rattle.c62_token.proofs.CaseTokens.{low_byte, byte_low, test_low, lowered, low, small_low, spells_low, length_low}
use Rattle.c62_token.proofs.CaseTokens.{all_low, begins_low, label_low}
use Rattle.c62_token.proofs.CaseTokens.{lows, tokens_low, kinds_low}
use Rattle.c62_op.specs.declared.set.InstructionSet.{InstructionSet}

-- ---- lines that are the same but for case

same_low : (before : ℕ) (line other : List ℕ) → IsRecased before line other
    → lowered (eqb before 48) line ≡ lowered (eqb before 48) other
unfolding low_byte
same_low before [] [] same = refl
same_low before (b ∷ line) (c ∷ other) same =
    let zero : eqb b 48 ≡ eqb c 48 = grind (arith, nat_tests) in
    rw (same_low b line other same.2, zero) (grind (arith, nat_tests))
same_low before line other same = absurd same

-- ---- mnemonics

mnemonic_low : (isa : InstructionSet) (w : Word) → mnemonic_named isa (low w) ≡ mnemonic_named isa w
unfolding mnemonic_named operation_named pseudo_named
mnemonic_low isa w = simp (small_low false w)

-- ---- a thing found, and what stands behind it

abbrev behind_low : {T : Type 0} → T × List Word → T × List Word
behind_low (x, ws) = (x, lows ws)

-- ---- units

-- a unit, and what is left of its word
abbrev left_low : WrittenUnit × Word → WrittenUnit × Word
left_low (unit, left) = (unit, low left)

marked_low : (letter : Letter) (side : Side) (w : Word)
    → unit_of (Some letter) (Some side) (mark_of (low w)) ≡ option_map left_low
    (unit_of (Some letter) (Some side) (mark_of w))
unfolding mark_of side_numbered low_byte
marked_low letter side (b ∷ c ∷ w) = simp (test_low is_x refl, test_low is_t refl, test_low is_ascii_digit refl)
    (grind (arith, nat_tests))
marked_low letter side w = grind (arith, nat_tests)

split_low : (w : Word) → unit_split (low w) ≡ option_map left_low (unit_split w)
unfolding unit_split letter_of side_numbered low_byte
split_low (b ∷ l ∷ n ∷ w) = rw (byte_low letter_of (λ b high less. grind (arith, nat_tests)) (eqb b 48) l)
    (grind (arith, nat_tests, marked_low))
split_low w = refl

unit_low : (ws : List Word) → unit_front (lows ws) ≡ option_map behind_low (unit_front ws)
unfolding unit_front
unit_low ws = grind (arith, begins_low is_dot refl, split_low)

-- ---- conditions

condition_low : (ws : List Word) → condition_front (lows ws) ≡ option_map behind_low (condition_front ws)
unfolding condition_front
condition_low ws = rw (kinds_low ws) (grind (arith, drop-map low))

-- ---- what is said, but for labels

abbrev small : Result Says Cause → Result Says Cause
small (Ok says) = Ok (small_says says)
small (Err cause) = Err cause

behind_unit_low : (isa : InstructionSet) (mnemonic : Mnemonic) (cond : Option Condition) (written : Option WrittenUnit)
    (ws : List Word)
    → small (behind_unit isa mnemonic cond written (lows ws)) ≡ small (behind_unit isa mnemonic cond written ws)
unfolding behind_unit
behind_unit_low isa mnemonic cond written ws = grind (arith, kinds_low, label_low, small_low false)

rest_low : (isa : InstructionSet) (ws : List Word) → small (rest_says isa (lows ws)) ≡ small (rest_says isa ws)
unfolding rest_says instruction_of
rest_low isa ws = grind (arith, begins_low is_dot refl, condition_low, mnemonic_low isa, unit_low, behind_unit_low isa)

-- ---- the head of a line

abbrev front_low : Option Word × List Word → Option Word × List Word
front_low (label, ws) = (option_map low label, lows ws)

label_front_low : (ws : List Word) → label_front (lows ws) ≡ front_low (label_front ws)
unfolding label_front
label_front_low ws = grind (arith, spells_low (codes ":"), label_low)

colon_low : (ws : List Word) → has_colon (lows ws) ≡ has_colon ws
colon_low [] = refl
colon_low (w ∷ ws) = rw (spells_low (codes ":") w, colon_low ws) refl

abbrev Head : Type 0
Head = Result (Option Word × List Word) Cause

abbrev head_low : Head → Head
head_low (Ok front) = Ok (front_low front)
head_low (Err cause) = Err cause

head_is_low : (line : List ℕ) → head_of (low line) ≡ head_low (head_of line)
unfolding head_of
head_is_low line =
    simp (on_test head_low, all_low is_allowed refl, length_low, begins_low is_star refl, tokens_low, label_front_low)
    (grind (arith, colon_low, spells_low (codes "||")))

-- ---- the line

rest_small : (isa : InstructionSet) (label : Option Word) (ws : List Word)
    → small_labels (with_rest (option_map low label) (rest_says isa (lows ws))) ≡ small_labels
    (with_rest label (rest_says isa ws))
rest_small isa label ws = grind (arith, rest_low isa ws, small_low false)

line_low : (isa : InstructionSet) (line : List ℕ)
    → small_labels (line_of isa (low line)) ≡ small_labels (line_of isa line)
unfolding line_of
line_low isa line = rw (head_is_low line) (grind (arith, rest_small isa))

line_same : (isa : InstructionSet) (line other : List ℕ) → IsRecased 32 line other
    → small_labels (line_of isa line) ≡ small_labels (line_of isa other)
line_same isa line other same = cc (line_low isa line, line_low isa other, same_low 32 line other same)

pub case_nothing : (isa : InstructionSet) (line other : List ℕ) → IsRecased 32 line other
    → CaseSaysNothing isa line other
case_nothing isa line other same = grind (arith, line_same isa line other same)

-- ---- what is said with the same labels

said_same : (isa : InstructionSet) (line other : List ℕ) (head front : Head) → head_of line ≡ head
    → head_of other ≡ front
    → small_labels (with_head isa head) ≡ small_labels (with_head isa front) → label_field line ≡ label_field other
    → target_in (with_head isa head) ≡ target_in (with_head isa front) → with_head isa head ≡ with_head isa front
said_same isa line other (Ok (label, ws)) (Ok (name, vs)) e f small field targets = grind
    (arith, field_is line label ws e, field_is other name vs f)
said_same isa line other head front e f small field targets = grind arith

-- lines that differ in case only have the same fault before what is said, and say the same where they have the same
-- labels
pub head_same : (line other : List ℕ) → IsRecased 32 line other → fault_in (head_of line) ≡ fault_in (head_of other)
head_same line other same = grind (arith, head_is_low line, head_is_low other, same_low 32 line other same)

pub line_as_other : (isa : InstructionSet) (line other : List ℕ) → IsRecased 32 line other
    → label_field line ≡ label_field other
    → target_in (line_of isa line) ≡ target_in (line_of isa other) → line_of isa line ≡ line_of isa other
unfolding line_of
line_as_other isa line other same field targets = said_same isa line other (head_of line) (head_of other) refl refl
    (line_same isa line other same) field targets
