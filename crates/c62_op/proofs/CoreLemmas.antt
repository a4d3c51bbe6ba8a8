-- What takes operands that the core has takes them by a form of the core.
use Rattle.std.proofs.Common.{◌≡◌, ◌∙◌, Bool, true, false, refl, sym, arith}
use Rattle.std.specs.Prelude.{◌&&◌, ◌||◌}
use Rattle.std.specs.List.{list_any}
use Rattle.std.proofs.lemmas.Bool.{false≢true}
use Rattle.c62_op.specs.declared.register.Side.{Side}
use Rattle.c62_op.specs.declared.register.Side.TheVariants.{A, B}
use Rattle.c62_op.specs.declared.register.Letter.{Letter}
use Rattle.c62_op.specs.declared.register.Letter.TheVariants.{L, S, M, D}
use Rattle.c62_op.specs.declared.register.Unit.{Unit as FunctionalUnit}
use Rattle.c62_op.specs.declared.operands.Op.{Op}
use Rattle.c62_op.specs.declared.operands.Op.TheVariants.{Cmpgtu, Cmpltu, Ext, Extu, Mpysu, Ldb, Ldbu, Ldh, Ldhu, Ldw}
use Rattle.c62_op.specs.declared.operands.Op.TheVariants.{Stb, Sth, Stw}
use Rattle.c62_op.specs.declared.operands.Op.TheVariants.{B as Branch, Add}
use Rattle.c62_op.specs.declared.operands.Op.TheVariants.{Lmbd, Norm, Subc, Sadd, Ssub, Set, Clr, Sshl, Smpy, Smpyh}
use Rattle.c62_op.specs.declared.operands.Op.TheVariants.{Smpyhl, Smpylh, Mpylhu, Mpyhlu, Mpyhus, Mpyhsu, Mpyhuls}
use Rattle.c62_op.specs.declared.operands.Op.TheVariants.{Mpyhslu, Mpyluhs, Mpylshu, Subab, Subah, Subaw}
use Rattle.c62_op.specs.declared.operands.Operands.{Operands}
use Rattle.c62_op.specs.declared.operands.Operands.TheVariants.{Three, Field, Access, Block, Register}
use Rattle.c62_op.specs.declared.set.InstructionSet.{InstructionSet}
use Rattle.c62_op.specs.declared.set.InstructionSet.TheVariants.{Core, Full}
use Rattle.c62_op.specs.Table.{forms_of, ucst5, ucst15}
use Rattle.c62_op.specs.Takes.{same_side, same_letter, offset_on, offset_in_range, is_far_access, far_offset_in_range}
use Rattle.c62_op.specs.Takes.{has_all_of, takes, takes_in, takes_somewhere}
use Rattle.c62_op.specs.Units.{all_units}
use Rattle.c62_op.proofs.SomewhereLemmas.{somewhere}

-- some form of the core takes the operands on a side
abbrev InCore : Op → Operands → Type 0
InCore op operands = list_any (λ form. has_all_of Core form.set && takes_somewhere form operands) (forms_of op) ≡ true

-- ---- accesses, and branches to a register

-- one with an offset of five bits stands where it would stand with one of fifteen
near : (holds a b far range letter fits on : Bool) → ((holds && (a || b)) || false) ≡ true
    → ((holds && letter && fits) || ((far && range && letter && (fits && on)) || false)) ≡ true
    → ((holds && letter && fits) || false) ≡ true
near true a b far range true true on some taking = refl
near true a b far range true false on some taking = grind arith
near true a b far range false fits on some taking = grind arith
near false a b far range letter fits on some taking = grind arith

-- a register of file B stands where one of either file would
own : (side target : Side) (letter : Bool) → ((false && same_side target A || (same_side target B)) || false) ≡ true
    → ((letter && (same_side side B && same_side target side)) || ((letter && (same_side side B && true)) || false))
    ≡ true
    → ((letter && (same_side side B && same_side target side)) || false) ≡ true
own A A letter some taking = grind arith
own A B letter some taking = grind arith
own B A letter some taking = grind arith
own B B letter some taking = grind arith

-- ---- all

stays : (op : Op) (operands : Operands) (u : FunctionalUnit) → InCore op operands → takes op operands u ≡ true
    → takes_in Core op operands u ≡ true
stays Cmpgtu (Three a b d) u some taking = taking
stays Cmpgtu _ u some taking = absurd (false≢true some)
stays Cmpltu (Three a b d) u some taking = taking
stays Cmpltu _ u some taking = absurd (false≢true some)
stays Ext (Field a k m d) u some taking = taking
stays Ext _ u some taking = absurd (false≢true some)
stays Extu (Field a k m d) u some taking = taking
stays Extu _ u some taking = absurd (false≢true some)
stays Mpysu (Three a b d) u some taking = taking
stays Mpysu _ u some taking = absurd (false≢true some)
stays Ldb (Access reg base form offset) u some taking =
    near (offset_in_range ucst5 offset) (same_side base.side A && offset_on A offset)
    (same_side base.side B && offset_on B offset) (is_far_access base form offset) (far_offset_in_range ucst15 offset)
    (same_letter D u.letter) (same_side base.side u.side && offset_on u.side offset) (same_side u.side B) some taking
stays Ldb _ u some taking = absurd (false≢true some)
stays Ldbu (Access reg base form offset) u some taking =
    near (offset_in_range ucst5 offset) (same_side base.side A && offset_on A offset)
    (same_side base.side B && offset_on B offset) (is_far_access base form offset) (far_offset_in_range ucst15 offset)
    (same_letter D u.letter) (same_side base.side u.side && offset_on u.side offset) (same_side u.side B) some taking
stays Ldbu _ u some taking = absurd (false≢true some)
stays Ldh (Access reg base form offset) u some taking =
    near (offset_in_range ucst5 offset) (same_side base.side A && offset_on A offset)
    (same_side base.side B && offset_on B offset) (is_far_access base form offset) (far_offset_in_range ucst15 offset)
    (same_letter D u.letter) (same_side base.side u.side && offset_on u.side offset) (same_side u.side B) some taking
stays Ldh _ u some taking = absurd (false≢true some)
stays Ldhu (Access reg base form offset) u some taking =
    near (offset_in_range ucst5 offset) (same_side base.side A && offset_on A offset)
    (same_side base.side B && offset_on B offset) (is_far_access base form offset) (far_offset_in_range ucst15 offset)
    (same_letter D u.letter) (same_side base.side u.side && offset_on u.side offset) (same_side u.side B) some taking
stays Ldhu _ u some taking = absurd (false≢true some)
stays Ldw (Access reg base form offset) u some taking =
    near (offset_in_range ucst5 offset) (same_side base.side A && offset_on A offset)
    (same_side base.side B && offset_on B offset) (is_far_access base form offset) (far_offset_in_range ucst15 offset)
    (same_letter D u.letter) (same_side base.side u.side && offset_on u.side offset) (same_side u.side B) some taking
stays Ldw _ u some taking = absurd (false≢true some)
stays Stb (Access reg base form offset) u some taking =
    near (offset_in_range ucst5 offset) (same_side base.side A && offset_on A offset)
    (same_side base.side B && offset_on B offset) (is_far_access base form offset) (far_offset_in_range ucst15 offset)
    (same_letter D u.letter) (same_side base.side u.side && offset_on u.side offset) (same_side u.side B) some taking
stays Stb _ u some taking = absurd (false≢true some)
stays Sth (Access reg base form offset) u some taking =
    near (offset_in_range ucst5 offset) (same_side base.side A && offset_on A offset)
    (same_side base.side B && offset_on B offset) (is_far_access base form offset) (far_offset_in_range ucst15 offset)
    (same_letter D u.letter) (same_side base.side u.side && offset_on u.side offset) (same_side u.side B) some taking
stays Sth _ u some taking = absurd (false≢true some)
stays Stw (Access reg base form offset) u some taking =
    near (offset_in_range ucst5 offset) (same_side base.side A && offset_on A offset)
    (same_side base.side B && offset_on B offset) (is_far_access base form offset) (far_offset_in_range ucst15 offset)
    (same_letter D u.letter) (same_side base.side u.side && offset_on u.side offset) (same_side u.side B) some taking
stays Stw _ u some taking = absurd (false≢true some)
stays Branch (Block number) u some taking = taking
stays Branch (Register target) u some taking = own u.side target.side (same_letter S u.letter) some taking
stays Branch _ u some taking = absurd (false≢true some)
stays Lmbd operands u some taking = absurd (false≢true some)
stays Norm operands u some taking = absurd (false≢true some)
stays Subc operands u some taking = absurd (false≢true some)
stays Sadd operands u some taking = absurd (false≢true some)
stays Ssub operands u some taking = absurd (false≢true some)
stays Set operands u some taking = absurd (false≢true some)
stays Clr operands u some taking = absurd (false≢true some)
stays Sshl operands u some taking = absurd (false≢true some)
stays Smpy operands u some taking = absurd (false≢true some)
stays Smpyh operands u some taking = absurd (false≢true some)
stays Smpyhl operands u some taking = absurd (false≢true some)
stays Smpylh operands u some taking = absurd (false≢true some)
stays Mpylhu operands u some taking = absurd (false≢true some)
stays Mpyhlu operands u some taking = absurd (false≢true some)
stays Mpyhus operands u some taking = absurd (false≢true some)
stays Mpyhsu operands u some taking = absurd (false≢true some)
stays Mpyhuls operands u some taking = absurd (false≢true some)
stays Mpyhslu operands u some taking = absurd (false≢true some)
stays Mpyluhs operands u some taking = absurd (false≢true some)
stays Mpylshu operands u some taking = absurd (false≢true some)
stays Subab operands u some taking = absurd (false≢true some)
stays Subah operands u some taking = absurd (false≢true some)
stays Subaw operands u some taking = absurd (false≢true some)
stays Add operands u some taking = taking
stays _ operands u some taking = taking

-- a unit that takes operands takes them by a form of a set by which some unit takes them
pub core_stays : (isa : InstructionSet) (op : Op) (operands : Operands) (u : FunctionalUnit)
    → list_any (takes_in isa op operands) all_units ≡ true → takes op operands u ≡ true
    → takes_in isa op operands u ≡ true
core_stays Full op operands u some taking = taking
core_stays Core op operands u some taking = stays op operands u (sym (somewhere Core op operands) ∙ some) taking

-- what one unit takes some unit takes
pub some_takes : (test : FunctionalUnit → Bool) (u : FunctionalUnit) → test u ≡ true → list_any test all_units ≡ true
some_takes test u is = by u.letter u.side is
  where
    by : (letter : Letter) (side : Side) → test (record { letter = letter; side = side }) ≡ true
        → list_any test all_units ≡ true
    by L A is = grind (arith, is)
    by S A is = grind (arith, is)
    by M A is = grind (arith, is)
    by D A is = grind (arith, is)
    by L B is = grind (arith, is)
    by S B is = grind (arith, is)
    by M B is = grind (arith, is)
    by D B is = grind (arith, is)
