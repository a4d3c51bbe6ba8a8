-- What is read of the tokens of spelled operands.
use Rattle.c62_line.proofs.Common.{◌≡◌, ℕ, ◌%◌, ◌≤◌, Bool, true, false, not, cond, leb, ◌&&◌, ◌||◌, List, [], ◌∷◌}
use Rattle.c62_line.proofs.Common.{length, Option, Some, None, Ok, refl, ap, arith, ℤ, pos, negsuc, is_ascii_digit}
use Rattle.c62_line.proofs.Common.{list_all, and_parts, and_right, cond_both, Side, Reg, Op, Add, Operands, Three}
use Rattle.c62_line.proofs.Common.{ConstantSecond, Two, Constant, Access, Block, has_kind, crosses_to}
use Rattle.c62_line.proofs.Common.{operands_spelling, register_name, Kind, Operation, Mark, Plain, Cross, Path}
use Rattle.c62_line.proofs.Common.{WrittenUnit, begins, is_word_byte, Word, kinds_of, constant_to_front, exchanged}
use Rattle.c62_line.proofs.Common.{Says, Does, is_branch, parts_read, nat_tests, leb-true, target_of}
use Rattle.c62_op.specs.Takes.{same_letter, takes, takes_in}
use Rattle.c62_op.specs.declared.register.Cond.{Cond as Condition}
use Rattle.c62_op.specs.declared.register.Letter.TheVariants.{D}
use Rattle.c62_op.specs.declared.register.Unit.{Unit as FunctionalUnit}
use Rattle.c62_op.specs.declared.operands.Op.TheVariants.{Mvklh, B as Branch}
use Rattle.c62_op.specs.declared.operands.Operands.TheVariants.{ConstantFirst, Field}
use Rattle.c62_insn.specs.Fault.{fault_in}
use Rattle.c62_token.specs.Kind.{kinds_in, read_in}
use Rattle.std.specs.Prelude.{map}
use Rattle.c62_op.specs.Shape.{is_load, is_store}
use Rattle.c62_insn.specs.Spelling.{address_spelling, is_base_alone}
use Rattle.c62_op.proofs.FormLemmas.{access_on_d, constant_on_d, first_in_file, is_add, is_narrow, narrow_constants}
use Rattle.c62_op.proofs.FormLemmas.{uncrossed_on_d}
use Rattle.c62_op.proofs.TakenTests.{taken_kind, taken_kinds, taken_letter, taken_whole}
use Rattle.c62_op.proofs.Registers.{same_side-refl}
use Rattle.c62_token.specs.declared.kind.Kind.TheVariants.{Register}
use Rattle.c62_token.specs.Number.{is_label}
use Rattle.c62_token.specs.Kind.{kind_of}
use Rattle.c62_line.specs.Operand.{operands_of}
use Rattle.c62_line.specs.Mnemonic.{in_order, stands_for, stands_on}
use Rattle.c62_line.specs.Unit.{mark_fits, unit_fits}
use Rattle.c62_line.specs.Line.{behind_unit, text_fault}
use Rattle.c62_line.specs.Laws.{NamesTarget, says_with}
use Rattle.c62_token.proofs.NumberLemmas.{label_few}
use Rattle.c62_token.proofs.SpelledTokens.{IsPiece, more, word_end, word_piece, word_token}
use Rattle.c62_token.proofs.SpelledNumbers.{register_back, register_piece}
use Rattle.c62_op.specs.declared.operands.Operands.TheVariants as operands
use Rattle.c62_line.proofs.SpelledAddresses.{narrow_piece, offset_piece, address_kinds, address_piece, access_piece}
use Rattle.c62_line.proofs.SpelledAddresses.{access_back, access_plain}
use Rattle.c62_op.specs.declared.set.InstructionSet.{InstructionSet}

-- ---- operations by the kind of their operands

-- what is known of an operation that has such operands
abbrev OfKind : Op → Operands → Type 0
OfKind op (Access reg base form offset) = ((is_load op || is_store op) ≡ true) × (is_branch op ≡ false)
OfKind op (Block number) = (is_store op ≡ false) × (is_branch op ≡ true)
OfKind op (operands.Register target) = (is_store op ≡ false) × (is_branch op ≡ true)
OfKind op _ = (is_store op ≡ false) × (is_branch op ≡ false)

of_kind : (op : Op) (operands : Operands) → has_kind op operands ≡ true → OfKind op operands
of_kind Add (Three a b d) kind = (cc, cc)
of_kind _ (Three a b d) kind = (cc, cc)
of_kind _ _ kind = (cc, cc)

-- ---- what the reader turns isn't spelled

first_stays : (op : Op) (a d : Reg) (k : ℤ) → is_add op ≡ true
    → constant_to_front (exchanged op) op a k d ≡ (op, ConstantFirst k a d)
first_stays Add a d k is = refl
first_stays _ a d k is = cc

-- operands on a unit that takes them read as they are
ordered : (op : Op) (operands : Operands) (unit : FunctionalUnit) → takes op operands unit ≡ true
    → in_order op operands ≡ (op, operands)
unfolding in_order
ordered Mvklh (Constant (pos n) d) unit taking =
    let small : n ≤ 65535 = grind (arith, nat_tests) in
    let same : n % 4294967296 % 65536 ≡ n = omega arith in
    ap (λ (m : ℕ). (Mvklh, Constant (pos m) d)) same
ordered Mvklh (Constant (negsuc n) d) unit taking = absurd cc
ordered op (Three a b d) unit taking = grind (arith, first_in_file op unit a b d taking)
ordered op (ConstantSecond a k d) unit taking = let kind = taken_kind op (ConstantSecond a k d) unit taking in cc
ordered op operands unit taking = refl

-- ---- the written unit

-- the mark of a unit with these operands
abbrev pub mark_on : Side → Operands → Mark
mark_on side (Access reg base form offset) = Path reg.side
mark_on side operands = cond (crosses_to side operands) Cross Plain

-- a unit with the mark that its operands want
abbrev pub written_on : Operands → FunctionalUnit → WrittenUnit
written_on operands unit = record { unit = unit; mark = mark_on unit.side operands }

no_fault : (isa : InstructionSet) (op : Op) (operands : Operands) (cond : Option Condition) (unit : FunctionalUnit)
    → fault_in isa op operands cond (Some unit) ≡ None
    → text_fault isa op operands cond (Some (written_on operands unit)) ≡ None
unfolding text_fault
no_fault isa op (Access reg base form offset) cond unit none = rw (none, same_side-refl reg.side) refl
no_fault isa op operands cond unit none =
    cond_both (crosses_to unit.side operands) Cross Plain
    (λ (mark : Mark). text_fault isa op operands cond (Some (record { unit = unit; mark = mark })) ≡ None)
    (λ e. rw none (grind arith)) (λ e. rw none refl)

-- a unit that takes the operands may be written
pub unit_written_fits : (op : Op) (operands : Operands) (unit : FunctionalUnit) → takes op operands unit ≡ true
    → unit_fits (Operation op) (written_on operands unit) ≡ true
unfolding unit_fits stands_on
unit_written_fits op (Access reg base form offset) unit taking =
    let kind = of_kind op (Access reg base form offset) (taken_kind op (Access reg base form offset) unit taking) in
    rw (
      taken_letter op (Access reg base form offset) unit taking,
      access_on_d op unit reg base form offset taking,
      kind.0,
    ) refl
unit_written_fits op operands unit taking =
    let own = uncrossed_on_d op operands unit taking in
    rw (taken_letter op operands unit taking)
    (cond_both (crosses_to unit.side operands) Cross Plain
    (λ (mark : Mark). mark_fits (Operation op) unit.letter mark ≡ true)
    (λ e. grind (arith, own)) (λ e. refl))

-- ---- behind the unit

-- what operands say where they are spelled
pub record IsBehind (isa : InstructionSet) (op : Op) (operands : Operands) (cond : Option Condition)
    (unit : FunctionalUnit) (text : List ℕ)
    (says : Says) : Type 0 where
  pub words : List Word
  pub piece : IsPiece word_end text words (kinds_of words) 48
  pub read : behind_unit isa (Operation op) cond (Some (written_on operands unit)) words ≡ Ok says

as_they_are : (isa : InstructionSet) {op : Op} {operands written : Operands} {cond : Option Condition}
    {unit : FunctionalUnit} {text : List ℕ}
    {words : List Word}
    {kinds : List Kind} {most : ℕ} {store : Bool} → takes_in isa op operands unit ≡ true
    → fault_in isa op operands cond (Some unit) ≡ None
    → (OfKind op operands → (is_store op ≡ store) × (target_of (Operation op) words ≡ None))
    → (in_order op operands ≡ (op, operands) → in_order op written ≡ (op, operands))
    → IsPiece word_end text words kinds most → leb most 48 ≡ true → map (read_in isa) kinds ≡ kinds
    → operands_of isa store kinds ≡ Some written
    → IsBehind isa op operands cond unit text (Does (parts_read op operands cond (Some (written_on operands unit))))
unfolding behind_unit stands_for
as_they_are isa {op = op} {operands = operands} {cond = cond} {unit = unit} {words = words} {most = most} taking none of
    order piece few same read =
    let whole = taken_whole isa op operands unit taking in
    let kind = taken_kind op operands unit whole in
    let held = taken_kinds isa op operands unit taking in
    let plain = of (of_kind op operands kind) in
    record {
      words = words;
      piece = record {
        splits = piece.splits;
        plain = piece.plain;
        told = refl;
        short = omega
            (arith, piece.short, leb-true most 48 few);
      };
      read = rw (
        plain.1,
        piece.told,
        same,
        plain.0,
        read,
        order (ordered op operands unit whole),
        held,
        no_fault isa op operands
            cond unit none,
      ) refl;
    }

no_label : (reg : Reg) → is_label (register_name reg) ≡ false
unfolding is_label
no_label reg = rw (register_back reg) (and_right _ false refl)

-- ---- a branch to a block

pub label_parts : (label : List ℕ) → is_label label ≡ true
    → (begins (λ b. not (is_ascii_digit b)) label ≡ true) × (list_all is_word_byte label ≡ true)
    × (leb (length label) 32 ≡ true)
unfolding is_label
label_parts label is = (grind (arith, nat_tests), grind (arith, nat_tests), grind (arith, nat_tests))

pub label_some : (label : List ℕ) → is_label label ≡ true → 1 ≤ length label
label_some [] is = let first = (label_parts [] is).0 in absurd cc
label_some (b ∷ label) is = omega arith

pub label_piece : (label : List ℕ) → is_label label ≡ true → IsPiece word_end label (label ∷ []) (kind_of label ∷ []) 48
label_piece label is =
    word_piece label (kind_of label) 48 (word_token label (label_some label is) (label_parts label is).1) refl
    (omega (arith, label_few label is))

-- ---- all operands

-- the operands as they are spelled
pub behind : (isa : InstructionSet) (name : ℕ → List ℕ) (op : Op) (operands : Operands) (cond : Option Condition)
    (unit : FunctionalUnit)
    → takes_in isa op operands unit ≡ true
    → NamesTarget name operands
    → fault_in isa op operands cond (Some unit) ≡ None
    → IsBehind isa op operands cond unit (operands_spelling name op unit.letter operands)
    (says_with name (record { op = op; operands = operands; cond = cond; unit = Some unit }) operands)
unfolding behind_unit stands_for in_order operands_of
behind isa name op (Three a b d) cond unit taking names none =
    as_they_are isa taking none (λ of. (of.0, rw of.1 refl)) (λ o. o)
    (more (register_piece a) (more (register_piece b) (register_piece d))) refl refl refl
behind isa name op (ConstantFirst k a d) cond unit taking names none =
    let number = narrow_piece k _
    (narrow_constants op (ConstantFirst k a d) unit (taken_whole isa op (ConstantFirst k a d) unit taking)) in
    let says = Does (parts_read op (ConstantFirst k a d) cond (Some (written_on (ConstantFirst k a d) unit))) in
    cond_both (same_letter unit.letter D) _ _
    (λ (text : List ℕ). IsBehind isa op (ConstantFirst k a d) cond unit text says)
    (λ e. as_they_are isa {written = ConstantSecond a k d} taking none (λ of. (of.0, rw of.1 refl))
    (λ o. first_stays op a d k (constant_on_d op unit k a d (taken_whole isa op (ConstantFirst k a d) unit taking) e))
    (more (register_piece a) (more number (register_piece d))) refl refl refl)
    (λ e. as_they_are isa taking none (λ of. (of.0, rw of.1 refl)) (λ o. o)
    (more number (more (register_piece a) (register_piece d))) refl refl refl)
behind isa name op (ConstantSecond a k d) cond unit taking names none =
    let number = narrow_piece k _
    (narrow_constants op (ConstantSecond a k d) unit (taken_whole isa op (ConstantSecond a k d) unit taking)) in
    as_they_are isa taking none (λ of. (of.0, rw of.1 refl)) (λ o. o)
    (more (register_piece a) (more number (register_piece d))) refl refl refl
behind isa name op (Two a d) cond unit taking names none =
    as_they_are isa taking none (λ of. (of.0, rw of.1 refl)) (λ o. o)
    (more (register_piece a) (register_piece d)) refl refl refl
behind isa name op (Field a k m d) cond unit taking names none =
    let narrow = narrow_constants op (Field a k m d) unit (taken_whole isa op (Field a k m d) unit taking) in
    let second = narrow_piece m _ (and_parts (is_narrow k) (is_narrow m && true) narrow).1 in
    let fields = more (narrow_piece k _ narrow) (more second (register_piece d)) in
    as_they_are isa taking none (λ of. (of.0, rw of.1 refl)) (λ o. o) (more (register_piece a) fields) refl refl refl
behind isa name op (Constant k d) cond unit taking names none =
    let number = narrow_piece k _
    (narrow_constants op (Constant k d) unit (taken_whole isa op (Constant k d) unit taking)) in
    as_they_are isa taking none (λ of. (of.0, rw of.1 refl)) (λ o. o) (more number (register_piece d)) refl refl refl
behind isa name op (Access reg base form offset) cond unit taking names none =
    let alone = is_base_alone form offset in
    let inside = offset_piece reg base form offset (narrow_constants op (Access reg base form offset) unit
    (taken_whole isa op (Access reg base form offset) unit taking)) in
    let address = address_piece base form offset alone inside in
    let whole = access_piece (is_store op) reg (address_spelling base form offset) address.0
    (address_kinds alone base form offset) address.1 in
    as_they_are isa taking none (λ of. (refl, rw of.1 refl)) (λ o. o) whole.1 refl
    (access_plain isa (is_store op) reg base form offset) (access_back isa (is_store op) reg base form offset)
behind isa name op (operands.Register target) cond unit taking names none =
    as_they_are isa taking none (λ of. (of.0, rw (of.1, no_label target) refl)) (λ o. o)
    (register_piece target) refl refl refl
behind isa name Branch (Block number) cond unit taking names none =
    record {
      words = name number ∷ [];
      piece = label_piece (name number) (names number refl);
      read = rw (names number refl, no_fault isa Branch (Block 0) cond unit none) refl;
    }
behind isa name op (Block number) cond unit taking names none = let kind = taken_kind op (Block number) unit
    (taken_whole isa op (Block number) unit taking) in
    absurd cc
