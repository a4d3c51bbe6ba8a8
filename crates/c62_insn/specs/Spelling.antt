-- The one spelling of an instruction on a unit (docs/LISTING.md, "Instructions", "The unit" and "Operands").
use Rattle.std.specs.Prelude.{ℕ, Bool, false, if◌then◌else◌, List, [], ◌∷◌, ◌++◌, ℤ, pos, Option, Some, None, codes}
use Rattle.std.specs.Fmt.{signed_decimal}
use Rattle.std.specs.Ordering.{int_eq}
use Rattle.c62_op.specs.declared.register.Side.{Side}
use Rattle.c62_op.specs.declared.register.Side.TheVariants.{A, B}
use Rattle.c62_op.specs.declared.register.Letter.{Letter}
use Rattle.c62_op.specs.declared.register.Letter.TheVariants.{L, S, M, D}
use Rattle.c62_op.specs.declared.register.Reg.{Reg}
use Rattle.c62_op.specs.declared.register.Cond.{Cond as Condition}
use Rattle.c62_op.specs.declared.register.Unit.{Unit as FunctionalUnit}
use Rattle.c62_op.specs.declared.operands.Op.{Op}
use Rattle.c62_op.specs.declared.operands.AddressForm.{AddressForm}
use Rattle.c62_op.specs.declared.operands.AddressForm.TheVariants.{Plus, Minus, PreIncrement, PreDecrement, PostIncrement, PostDecrement}
use Rattle.c62_op.specs.declared.operands.Offset.{Offset}
use Rattle.c62_op.specs.declared.operands.Offset.TheVariants.{Constant as ByConstant, Register as ByRegister}
use Rattle.c62_op.specs.declared.operands.Operands.{Operands}
use Rattle.c62_op.specs.declared.operands.Operands.TheVariants.{Three, ConstantFirst, ConstantSecond, Two, Field, Constant, Access, Block, Register}
use Rattle.c62_insn.specs.declared.insn.Insn.{Insn}
use Rattle.c62_op.specs.Name.{register_name}
use Rattle.c62_op.specs.Table.{mnemonic_of}
use Rattle.c62_op.specs.Takes.{same_letter}
use Rattle.c62_op.specs.Shape.{is_store, data_path_of, crosses_to}
use Rattle.c62_insn.specs.Insn.{op_of, operands_of, cond_of}

-- the number of a side's units and of its data path
abbrev pub side_digit : Side → List ℕ
side_digit A = codes "1"
side_digit B = codes "2"

abbrev pub unit_letter : Letter → List ℕ
unit_letter L = codes "L"
unit_letter S = codes "S"
unit_letter M = codes "M"
unit_letter D = codes "D"

-- `[A1] ` or `[!A1] `
abbrev pub condition_spelling : Option Condition → List ℕ
condition_spelling None = []
condition_spelling (Some cond) = codes "[" ++ (if cond.negated then codes "!" else []) ++ register_name cond.reg ++ codes "] "

-- of a unit, X where an operand crosses on it, and T with the number of the data path of a load or store
abbrev pub data_path_spelling : Option Side → List ℕ
data_path_spelling None = []
data_path_spelling (Some path) = codes "T" ++ side_digit path

abbrev pub path_spelling : Side → Operands → List ℕ
path_spelling side operands = (if crosses_to side operands then codes "X" else []) ++ data_path_spelling (data_path_of operands)

-- `.L1`, `.S2X` or `.D1T2`
abbrev pub unit_spelling : Operands → FunctionalUnit → List ℕ
unit_spelling operands unit = codes "." ++ unit_letter unit.letter ++ side_digit unit.side ++ path_spelling unit.side operands

abbrev pub offset_spelling : Offset → List ℕ
offset_spelling (ByConstant k) = signed_decimal k
offset_spelling (ByRegister reg) = register_name reg

-- what stands before the base, and what after it
abbrev pub sign_of : AddressForm → List ℕ
sign_of Plus = codes "+"
sign_of Minus = codes "-"
sign_of PreIncrement = codes "++"
sign_of PreDecrement = codes "--"
sign_of _ = []

abbrev pub step_of : AddressForm → List ℕ
step_of PostIncrement = codes "++"
step_of PostDecrement = codes "--"
step_of _ = []

-- `*+R[0]`, which is written `*R`
abbrev pub is_base_alone : AddressForm → Offset → Bool
is_base_alone Plus (ByConstant k) = int_eq k (pos 0)
is_base_alone _ _ = false

-- `*A4`, `*+A4[1]` or `*A4++[A2]`
abbrev pub address_spelling : Reg → AddressForm → Offset → List ℕ
address_spelling base form offset =
    if is_base_alone form offset then codes "*" ++ register_name base
    else codes "*" ++ sign_of form ++ register_name base ++ step_of form ++ codes "[" ++ offset_spelling offset ++ codes "]"

-- operands one behind the other
abbrev pub with_commas : List (List ℕ) → List ℕ
with_commas [] = []
with_commas (text ∷ []) = text
with_commas (text ∷ next ∷ rest) = text ++ codes "," ++ with_commas (next ∷ rest)

-- a source, the two constants of a field and the destination
abbrev pub field_spelling : Reg → ℤ → ℤ → Reg → List ℕ
field_spelling a k m d = with_commas (register_name a ∷ signed_decimal k ∷ signed_decimal m ∷ register_name d ∷ [])

-- a store's register stands before the address, a load's after it
abbrev pub access_spelling : Op → Reg → List ℕ → List ℕ
access_spelling op reg address =
    if is_store op then with_commas (register_name reg ∷ address ∷ []) else with_commas (address ∷ register_name reg ∷ [])

-- The operands in the order of the form that a unit of this letter has: .D takes the constant of ADD second. A branch
-- goes to the block of this name.
abbrev pub operands_spelling : (ℕ → List ℕ) → Op → Letter → Operands → List ℕ
operands_spelling name op letter (Three a b d) = with_commas (register_name a ∷ register_name b ∷ register_name d ∷ [])
operands_spelling name op letter (ConstantFirst k a d) =
    if same_letter letter D then with_commas (register_name a ∷ signed_decimal k ∷ register_name d ∷ [])
    else with_commas (signed_decimal k ∷ register_name a ∷ register_name d ∷ [])
operands_spelling name op letter (ConstantSecond a k d) = with_commas (register_name a ∷ signed_decimal k ∷ register_name d ∷ [])
operands_spelling name op letter (Two a d) = with_commas (register_name a ∷ register_name d ∷ [])
operands_spelling name op letter (Field a k m d) = field_spelling a k m d
operands_spelling name op letter (Constant k d) = with_commas (signed_decimal k ∷ register_name d ∷ [])
operands_spelling name op letter (Access reg base form offset) = access_spelling op reg (address_spelling base form offset)
operands_spelling name op letter (Block number) = name number
operands_spelling name op letter (Register target) = register_name target

-- an instruction on a unit: its condition, its mnemonic, the unit and the operands
abbrev pub spelling : (ℕ → List ℕ) → Insn → FunctionalUnit → List ℕ
spelling name insn unit =
    condition_spelling (cond_of insn) ++ mnemonic_of (op_of insn) ++ codes " " ++ unit_spelling (operands_of insn) unit ++ codes " "
    ++ operands_spelling name (op_of insn) unit.letter (operands_of insn)
