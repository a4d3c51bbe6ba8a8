-- Mnemonics, and what the reader makes of them.
use Rattle.std.specs.Prelude.{ℕ, ℤ, pos, negsuc, Bool, true, false, not, ◌==◌, ◌&&◌, ◌||◌, List, Option, Some, None, codes, if◌then◌else◌}
use Rattle.std.specs.Char.{to_ascii_lowercase}
use Rattle.std.specs.List.{find}
use Rattle.c62_op.specs.declared.register.Letter.{Letter}
use Rattle.c62_op.specs.declared.register.Letter.TheVariants.{L, S, D}
use Rattle.c62_op.specs.declared.register.Reg.{Reg}
use Rattle.c62_op.specs.declared.operands.Op.{Op}
use Rattle.c62_op.specs.declared.operands.Op.TheVariants.{Add, Sub, And, Or, Xor, Cmpeq, Cmpgt, Cmplt, Cmpgtu, Cmpltu, Add2, Mvk, Mvklh, Mpy, Mpyu}
use Rattle.c62_op.specs.declared.operands.Op.TheVariants.{Sadd, Smpy, Smpyh, Smpyhl, Smpylh, Mpylhu, Mpyhlu, Mpyhus, Mpyhsu, Mpyhuls, Mpylshu, Mpyhslu, Mpyluhs}
use Rattle.c62_op.specs.declared.operands.Op.TheVariants.{Mpyus, Mpysu, Mpyh, Mpyhu, Mpyhl, Mpylh}
use Rattle.c62_op.specs.declared.operands.Operands.{Operands}
use Rattle.c62_op.specs.declared.operands.Operands.TheVariants.{Three, ConstantFirst, ConstantSecond, Two, Constant, Register}
use Rattle.c62_op.specs.Takes.{has_kind_in, is_in, same_side, same_letter, has_letter}
use Rattle.c62_op.specs.Table.{mnemonic_of, all_operations}
use Rattle.c62_op.specs.Word.{word, lo, hi, sg_half}
use Rattle.c62_line.specs.declared.mnemonic.Mnemonic.{Mnemonic}
use Rattle.c62_line.specs.declared.mnemonic.Mnemonic.TheVariants.{Operation, Mv, Neg, Not, Zero, Mvkl, Mvkh, Nop}
use Rattle.c62_token.specs.Number.{spells}
use Rattle.c62_token.specs.Token.{begins}
use Rattle.c62_op.specs.declared.set.InstructionSet.{InstructionSet}

unfoldable pub operation_named : List ℕ → Option Op
operation_named name = find (λ op. spells (mnemonic_of op) name) all_operations

-- the operation's name begins with this small letter
abbrev pub begins_so : ℕ → Op → Bool
begins_so letter op = begins (λ b. to_ascii_lowercase b == letter) (mnemonic_of op)

-- the mnemonics that are no operation's name
unfoldable pub pseudo_named : List ℕ → Option Mnemonic
pseudo_named name =
    if spells (codes "MV") name then Some Mv
    else (if spells (codes "NEG") name then Some Neg
    else (if spells (codes "NOT") name then Some Not
    else (if spells (codes "ZERO") name then Some Zero
    else (if spells (codes "MVKL") name then Some Mvkl
    else (if spells (codes "MVKH") name then Some Mvkh
    else (if spells (codes "NOP") name then Some Nop
    else None))))))

-- the operation, where the set has it
abbrev pub if_in : InstructionSet → Option Op → Option Op
if_in isa None = None
if_in isa (Some op) = if is_in isa op then Some op else None

abbrev pub either_mnemonic : Option Op → Option Mnemonic → Option Mnemonic
either_mnemonic (Some op) other = Some (Operation op)
either_mnemonic None other = other

unfoldable pub mnemonic_named : InstructionSet → List ℕ → Option Mnemonic
mnemonic_named isa name = either_mnemonic (if_in isa (operation_named name)) (pseudo_named name)

-- whether a unit of this letter may be written behind the mnemonic
unfoldable pub stands_on : Mnemonic → Letter → Bool
stands_on (Operation op) letter = has_letter op letter
stands_on Mv letter = has_letter Add letter
stands_on Neg letter = same_letter letter L || same_letter letter S
stands_on Not letter = has_letter Xor letter
stands_on Zero letter = has_letter Sub letter
stands_on Mvkl letter = has_letter Mvk letter
stands_on Mvkh letter = has_letter Mvklh letter
stands_on Nop letter = false

-- ---- what is read

-- the operation that does the same with its two sources exchanged
abbrev pub exchanged : Op → Option Op
exchanged Add = Some Add
exchanged And = Some And
exchanged Or = Some Or
exchanged Xor = Some Xor
exchanged Add2 = Some Add2
exchanged Cmpeq = Some Cmpeq
exchanged Cmpgt = Some Cmplt
exchanged Cmplt = Some Cmpgt
exchanged Cmpgtu = Some Cmpltu
exchanged Cmpltu = Some Cmpgtu
exchanged Mpy = Some Mpy
exchanged Mpyu = Some Mpyu
exchanged Mpyh = Some Mpyh
exchanged Mpyhu = Some Mpyhu
exchanged Mpyhl = Some Mpylh
exchanged Mpylh = Some Mpyhl
exchanged Mpyus = Some Mpysu
exchanged Mpysu = Some Mpyus
exchanged Sadd = Some Sadd
exchanged Smpy = Some Smpy
exchanged Smpyh = Some Smpyh
exchanged Smpyhl = Some Smpylh
exchanged Smpylh = Some Smpyhl
exchanged Mpylhu = Some Mpyhlu
exchanged Mpyhlu = Some Mpylhu
exchanged Mpyhus = Some Mpyhsu
exchanged Mpyhsu = Some Mpyhus
exchanged Mpyhuls = Some Mpylshu
exchanged Mpylshu = Some Mpyhuls
exchanged Mpyhslu = Some Mpyluhs
exchanged Mpyluhs = Some Mpyhslu
exchanged _ = None

abbrev pub is_mvklh : Op → Bool
is_mvklh Mvklh = true
is_mvklh _ = false

-- the lower half of a constant's word, that half with its sign, and the upper half
abbrev pub low_half : ℤ → ℤ
low_half k = pos (lo (word k))

abbrev pub signed_low_half : ℤ → ℤ
signed_low_half k = sg_half (lo (word k))

abbrev pub high_half : ℤ → ℤ
high_half k = pos (hi (word k))

-- a constant written second goes first where the sources may be exchanged
abbrev pub constant_to_front : Option Op → Op → Reg → ℤ → Reg → Op × Operands
constant_to_front (Some turned) op a k d = (turned, ConstantFirst k a d)
constant_to_front None op a k d = (op, ConstantSecond a k d)

-- a crossed register before one of the own side goes behind it where the sources may be exchanged
abbrev pub crossed_to_back : Option Op → Op → Reg → Reg → Reg → Op × Operands
crossed_to_back (Some turned) op a b d =
    if not (same_side a.side d.side) && same_side b.side d.side then (turned, Three b a d) else (op, Three a b d)
crossed_to_back None op a b d = (op, Three a b d)

unfoldable pub in_order : Op → Operands → Op × Operands
in_order op (Three a b d) = crossed_to_back (exchanged op) op a b d
in_order op (ConstantSecond a k d) = constant_to_front (exchanged op) op a k d
in_order op (Constant k d) = (op, Constant (if is_mvklh op then low_half k else k) d)
in_order op operands = (op, operands)

abbrev pub with_kind : InstructionSet → Op × Operands → Option (Op × Operands)
with_kind isa (op, operands) = if has_kind_in isa op operands then Some (op, operands) else None

-- zero by a subtraction where .L or .D is written
abbrev pub zero_in : Option Letter → Reg → Op × Operands
zero_in (Some L) d = (Sub, Three d d d)
zero_in (Some D) d = (Sub, Three d d d)
zero_in _ d = (Mvk, Constant (pos 0) d)

-- The operation and operands that a mnemonic with these operands stands for. The letter is that of the written unit.
unfoldable pub stands_for : Mnemonic → Option Letter → Operands → Option (Op × Operands)
stands_for (Operation op) letter operands = Some (in_order op operands)
stands_for Mv letter (Two x d) = Some (Add, ConstantFirst (pos 0) x d)
stands_for Neg letter (Two x d) = Some (Sub, ConstantFirst (pos 0) x d)
stands_for Not letter (Two x d) = Some (Xor, ConstantFirst (negsuc 0) x d)
stands_for Zero letter (Register d) = Some (zero_in letter d)
stands_for Mvkl letter (Constant k d) = Some (Mvk, Constant (signed_low_half k) d)
stands_for Mvkh letter (Constant k d) = Some (Mvklh, Constant (high_half k) d)
stands_for _ letter operands = None
