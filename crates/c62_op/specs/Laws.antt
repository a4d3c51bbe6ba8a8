-- Laws of the operations and of their table, as SPRU189 words them in the sections that are named. What each operation takes,
-- and its result, is a row of the table, which the tests of c62_insn compare with the page.
use Rattle.std.specs.Prelude.{◌≡◌, ℕ, ◌+◌, ◌-◌, ◌%◌, ◌^◌, ◌==◌, pos, neg_ℤ, not, ◌||◌, nat_lt, if◌then◌else◌, [], ◌∷◌, IsTrue}
use Rattle.std.specs.List.{filter}
use Rattle.std.specs.Str.{bytes_eq}
use Rattle.c62_op.specs.declared.register.Letter.TheVariants.{M}
use Rattle.c62_op.specs.declared.operands.Op.{Op}
use Rattle.c62_op.specs.declared.operands.Op.TheVariants.{Cmpeq, Cmpgt, Cmplt, Cmpgtu, Cmpltu, Add2, Shl, Shr, Shru, Mpyus, Mpysu, Mpyhl, Mpylh}
use Rattle.c62_op.specs.declared.operands.Op.TheVariants.{Smpyhl, Smpylh, Mpyhlu, Mpylhu, Mpyhus, Mpyhsu, Mpyhuls, Mpylshu, Mpyhslu, Mpyluhs, Addab, Addah, Addaw, Subab, Subah, Subaw}
use Rattle.c62_op.specs.declared.operands.AddressForm.TheVariants.{PreIncrement, PreDecrement, PostIncrement, PostDecrement}
use Rattle.c62_op.specs.declared.form.Range.{Range}
use Rattle.c62_op.specs.Table.{all_operations, scst5, ucst4, ucst5, ucst15, scst16, ucst16, mnemonic_of}
use Rattle.c62_op.specs.declared.register.Unit.{Unit as FunctionalUnit}
use Rattle.c62_op.specs.declared.operands.Operands.{Operands}
use Rattle.c62_op.specs.declared.set.InstructionSet.{InstructionSet}
use Rattle.c62_op.specs.Takes.{has_letter, takes, takes_in}
use Rattle.c62_op.specs.Units.{is_taken_in}
use Rattle.c62_op.specs.Shape.{delay_of, is_load, is_branch}
use Rattle.c62_op.specs.Word.{lo, hi, sum, difference}
use Rattle.c62_op.specs.Meaning.{result_of, moved, address_of}

-- an operation stands in the table once, under a name that no other one has
abbrev pub StandsOnce : Op → Type 0
StandsOnce op = filter (λ other. bytes_eq (mnemonic_of other) (mnemonic_of op)) all_operations ≡ op ∷ []

-- one delay slot has what runs on .M, four have loads, five the branch, and others none ("Delay Slots")
pub record HasDelayOfKind (op : Op) : Type 0 where
  pub multiply : (delay_of op == 1) ≡ has_letter op M
  pub load : (delay_of op == 4) ≡ is_load op
  pub branch : (delay_of op == 5) ≡ is_branch op
  pub other : (delay_of op == 0) ≡ not (has_letter op M || is_load op || is_branch op)

-- a post form's address is the old base, a pre form's the new one; up and down again gives the base ("Addressing Modes")
pub record MovesBase (base distance : ℕ) : Type 0 where
  pub post_increment : address_of PostIncrement base (moved PostIncrement base distance) ≡ base
  pub post_decrement : address_of PostDecrement base (moved PostDecrement base distance) ≡ base
  pub pre_increment : address_of PreIncrement base (moved PreIncrement base distance) ≡ sum base distance
  pub pre_decrement : address_of PreDecrement base (moved PreDecrement base distance) ≡ difference base distance
  pub back : moved PostDecrement (moved PostIncrement base distance) distance ≡ base
  pub forth : moved PreIncrement (moved PreDecrement base distance) distance ≡ base

-- pairs of operations are one with the sources exchanged, and a word equals itself ("CMPGT", "CMPEQ", "MPYHL", "MPYUS")
pub record Mirrors (a b : ℕ) : Type 0 where
  pub signed : result_of Cmpgt a b ≡ result_of Cmplt b a
  pub unsigned : result_of Cmpgtu a b ≡ result_of Cmpltu b a
  pub itself : result_of Cmpeq a a ≡ 1
  pub halves : result_of Mpyhl a b ≡ result_of Mpylh b a
  pub signs : result_of Mpyus a b ≡ result_of Mpysu b a
  pub saturated_halves : result_of Smpyhl a b ≡ result_of Smpylh b a
  pub unsigned_halves : result_of Mpyhlu a b ≡ result_of Mpylhu b a
  pub signs_of_high : result_of Mpyhus a b ≡ result_of Mpyhsu b a
  pub unsigned_high : result_of Mpyhuls a b ≡ result_of Mpylshu b a
  pub signed_high : result_of Mpyhslu a b ≡ result_of Mpyluhs b a

-- SUBAB, SUBAH and SUBAW take back what ADDAB, ADDAH and ADDAW added ("SUBAB")
pub record TakesBack (base offset : ℕ) : Type 0 where
  pub bytes : result_of Subab (result_of Addab base offset) offset ≡ base
  pub halves : result_of Subah (result_of Addah base offset) offset ≡ base
  pub words : result_of Subaw (result_of Addaw base offset) offset ≡ base

-- the numbers of so many bits: in two's complement, or without a sign
abbrev pub signed_range : ℕ → Range
signed_range bits = record { low = neg_ℤ (pos (2 ^ (bits - 1))); high = pos (2 ^ (bits - 1) - 1) }

abbrev pub unsigned_range : ℕ → Range
unsigned_range bits = record { low = pos 0; high = pos (2 ^ bits - 1) }

-- the constants that the manual names scst5, ucst4, ucst5, ucst15, scst16 and ucst16 ("Individual Instruction Descriptions")
abbrev pub HasRangesOfBits : Type 0
HasRangesOfBits =
    (scst5 ≡ signed_range 5) × (ucst4 ≡ unsigned_range 4) × (ucst5 ≡ unsigned_range 5) × (ucst15 ≡ unsigned_range 15)
    × (scst16 ≡ signed_range 16) × (ucst16 ≡ unsigned_range 16)

-- each half of the sum is that of the halves, whatever the other halves are ("ADD2")
abbrev pub AddsHalves : ℕ → ℕ → Type 0
AddsHalves a b = (lo (result_of Add2 a b) ≡ (lo a + lo b) % 2 ^ 16) × (hi (result_of Add2 a b) ≡ (hi a + hi b) % 2 ^ 16)

-- a count of 32 or more in its six low bits shifts all bits out ("SHL", "SHR", "SHRU")
pub record ShiftsOut (v count : ℕ) : Type 0 where
  pub left : result_of Shl v count ≡ 0
  pub right : result_of Shr v count ≡ (if nat_lt v (2 ^ 31) then 0 else 2 ^ 32 - 1)
  pub unsigned : result_of Shru v count ≡ 0

-- A unit that takes operands takes them by a form of each set by which some unit does: nothing that the core has runs on another unit
-- where the full set is asked for ("Mapping Between Instructions and Functional Units").
abbrev pub StaysInSet : InstructionSet → Op → Operands → FunctionalUnit → Type 0
StaysInSet isa op operands unit = IsTrue (is_taken_in isa op operands) → IsTrue (takes op operands unit) → IsTrue (takes_in isa op operands unit)
