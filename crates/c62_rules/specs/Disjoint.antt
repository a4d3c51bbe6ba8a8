-- Two accesses whose bytes never meet, so that they need no order (docs/MACHINE.md, "Dependences"; SPRU189, "Addressing
-- Modes").
use Rattle.std.specs.Prelude.{◌≡◌, ◌↔◌, ◌⊎◌, ℕ, ◌+◌, ◌-◌, ◌*◌, ◌%◌, ◌^◌, ◌<◌, ◌≤◌, ℤ, pos, ◌≤ℤ◌, Bool, false, not, nat_le, unsigned_abs, ◌&&◌, ◌||◌, List, map, Option, Some, None, slice_get, IsTrue}
use Rattle.c62_op.specs.declared.register.Reg.{Reg}
use Rattle.c62_op.specs.declared.operands.Op.{Op}
use Rattle.c62_op.specs.declared.operands.AddressForm.{AddressForm}
use Rattle.c62_op.specs.declared.operands.AddressForm.TheVariants.{Plus, Minus, PreIncrement, PreDecrement}
use Rattle.c62_op.specs.declared.operands.Offset.TheVariants.{Constant as ByConstant}
use Rattle.c62_op.specs.declared.operands.Operands.{Operands}
use Rattle.c62_op.specs.declared.operands.Operands.TheVariants.{Access}
use Rattle.c62_op.specs.Meaning.{size_of}
use Rattle.c62_op.specs.Takes.{same_reg}
use Rattle.c62_insn.specs.declared.insn.Insn.{Insn}
use Rattle.c62_insn.specs.declared.effect.Access.{Access as MemoryAccess}
use Rattle.c62_insn.specs.Insn.{op_of, operands_of, operand_reads}
use Rattle.c62_insn.specs.Effect.{access_of}
use Rattle.c62_rules.specs.Exclusive.{is_written_by, IsUnwritten}

-- The bytes that an access with a constant offset covers, counted from 131,068 bytes before its base: no such offset is
-- greater.
pub record Range : Type 0 where
  pub base : Reg
  pub begin : ℕ
  pub size : ℕ

-- where they begin, of the offset in bytes
abbrev pub begin_of : AddressForm → ℕ → ℕ
begin_of Plus offset = 131068 + offset
begin_of PreIncrement offset = 131068 + offset
begin_of Minus offset = 131068 - offset
begin_of PreDecrement offset = 131068 - offset
begin_of _ offset = 131068

abbrev pub range_of : Op → Operands → Option Range
range_of op (Access _ base form (ByConstant k)) =
    Some (record { base = base; begin = begin_of form (unsigned_abs k * size_of op); size = size_of op })
range_of op _ = None

abbrev pub range_in : Option Insn → Option Range
range_in None = None
range_in (Some insn) = range_of (op_of insn) (operands_of insn)

-- both are from one base and do not meet
abbrev pub are_apart : Range → Range → Bool
are_apart a b = same_reg a.base b.base && (nat_le (a.begin + a.size) b.begin || nat_le (b.begin + b.size) a.begin)

abbrev pub disjoint_by : List Insn → ℕ → ℕ → Option Range → Option Range → Bool
disjoint_by block i j (Some a) (Some b) = are_apart a b && not (is_written_by block i (j - i) a.base)
disjoint_by block i j _ _ = false

-- the accesses of numbers i and j never meet: their bytes from one base do not, and no instruction from i on and before j
-- writes that
abbrev pub are_disjoint : List Insn → ℕ → ℕ → Bool
are_disjoint block i j = disjoint_by block i j (range_in (slice_get block i)) (range_in (slice_get block j))

-- ---- laws

-- a constant offset of an instruction is 0 to 32,767, by whichever form it is taken
abbrev pub HasSmallOffset : Insn → Type 0
HasSmallOffset insn =
    (reg base : Reg) (form : AddressForm) (k : ℤ) → operands_of insn ≡ Access reg base form (ByConstant k) → (pos 0 ≤ℤ k) × (k ≤ℤ pos 32767)

-- the access of an instruction, with these words in registers
abbrev pub IsAccess : Insn → (Reg → ℕ) → MemoryAccess → Type 0
IsAccess insn words access = access_of (op_of insn) (operands_of insn) (map words (operand_reads insn)) ≡ Some access

-- it ends within the 65,536 bytes of memory
abbrev pub EndsInMemory : MemoryAccess → Type 0
EndsInMemory access = access.address + access.size ≤ 65536

-- an access that ends within memory lies at the word of its base and the range from there, modulo 2^32
abbrev pub LiesAtItsRange : Insn → Type 0
LiesAtItsRange insn =
    (words : Reg → ℕ) (range : Range) (access : MemoryAccess) → range_in (Some insn) ≡ Some range → IsAccess insn words access → EndsInMemory access
    → (access.address ≡ (words range.base + (2 ^ 32 - 131068) + range.begin) % 2 ^ 32) × (access.size ≡ range.size)

-- a byte of memory that an access covers
abbrev pub IsCovered : MemoryAccess → ℕ → Type 0
IsCovered access at = (access.address ≤ at) × (at < access.address + access.size)

-- where two ranges from one word of the base are apart, no byte of memory is of both accesses
abbrev pub ApartShareNothing : Insn → Insn → Type 0
ApartShareNothing p q =
    (one other : Range) (words others : Reg → ℕ) (first second : MemoryAccess) (at : ℕ) → range_in (Some p) ≡ Some one → range_in (Some q) ≡ Some other
    → IsTrue (are_apart one other) → words one.base ≡ others one.base → IsAccess p words first → IsAccess q others second
    → EndsInMemory first → EndsInMemory second → IsCovered first at → IsCovered second at → ⊥

-- a byte of a range, counted as its begin is
abbrev pub IsIn : Range → ℕ → Type 0
IsIn range at = (range.begin ≤ at) × (at < range.begin + range.size)

-- ranges from one base that are not apart share a byte
abbrev pub MeetInAByte : Range → Range → Type 0
MeetInAByte a b = a.base ≡ b.base → 0 < a.size → 0 < b.size → are_apart a b ≡ false → (at : ℕ) × IsIn a at × IsIn b at

-- The accesses of p and q, numbers i and j of a block, have constant offsets from one base, which keeps its value from i
-- to j, and one ends before the other begins.
pub record IsDisjoint (block : List Insn) (i j : ℕ) (p q : Insn) : Type 0 where
  pub one : Range
  pub other : Range
  pub is_one : range_in (Some p) ≡ Some one
  pub is_other : range_in (Some q) ≡ Some other
  pub same : one.base ≡ other.base
  pub apart : (one.begin + one.size ≤ other.begin) ⊎ (other.begin + other.size ≤ one.begin)
  pub unwritten : IsUnwritten block i j one.base

-- are_disjoint tells it
abbrev pub DisjointIsTold : List Insn → ℕ → ℕ → Insn → Insn → Type 0
DisjointIsTold block i j p q =
    i < j → slice_get block i ≡ Some p → slice_get block j ≡ Some q → IsTrue (are_disjoint block i j) ↔ IsDisjoint block i j p q
