-- Laws of all instructions, above the definitions, as the named sections of SPRU189 word them; one with no section is how MACHINE.md words it.
use Rattle.std.specs.Prelude.{◌≡◌, ◌≢◌, ◌⊎◌, ℕ, ◌^◌, ◌<◌, ◌≤◌, ℤ, ◌*ℤ◌, neg_ℤ, false, [], ◌∷◌, map, All, Some, None, IsTrue}
use Rattle.std.specs.List.Sorted.{IsStrictlyIncreasing}
use Rattle.c62_op.specs.declared.register.Side.{Side}
use Rattle.c62_op.specs.declared.register.Reg.{Reg}
use Rattle.c62_op.specs.declared.register.Letter.TheVariants.{D}
use Rattle.c62_op.specs.declared.register.Unit.{Unit as FunctionalUnit}
use Rattle.c62_op.specs.declared.operands.Op.TheVariants.{Add, Sub, Mpy}
use Rattle.c62_op.specs.declared.operands.AddressForm.{AddressForm}
use Rattle.c62_op.specs.declared.operands.Offset.{Offset}
use Rattle.c62_op.specs.declared.operands.Operands.TheVariants.{Three, ConstantFirst, ConstantSecond, Access}
use Rattle.c62_insn.specs.declared.fault.FormFault.TheVariants.{NoUnit}
use Rattle.c62_insn.specs.declared.insn.Insn.{Insn}
use Rattle.c62_op.specs.Takes.{takes}
use Rattle.c62_insn.specs.Fault.{form_fault}
use Rattle.c62_op.specs.Shape.{side_of, delay_of, is_load, changes_base, data_path_of, crosses_to}
use Rattle.c62_insn.specs.Insn.{op_of, operands_of, unit_of, register_writes}
use Rattle.c62_op.specs.Word.{word, sg_half, lo}
use Rattle.c62_insn.specs.Effect.{values_of}

-- some unit takes the instruction: the written one, where one is written ("Mapping Between Instructions and Functional Units")
abbrev pub HasUnit : Insn → Type 0
HasUnit insn =
    (unit : FunctionalUnit) × IsTrue (takes (op_of insn) (operands_of insn) unit) × ((unit_of insn ≡ None) ⊎ (unit_of insn ≡ Some unit))

-- only units of the side that the operands decide take them ("Functional Units")
abbrev pub StandsOnOneSide : Insn → Type 0
StandsOnOneSide insn =
    (unit : FunctionalUnit) (side : Side) → side_of (operands_of insn) ≡ Some side → IsTrue (takes (op_of insn) (operands_of insn) unit)
    → unit.side ≡ side

-- the delays of the writes rise, so no two of them name one register with one delay
abbrev pub HasRisingDelays : Insn → Type 0
HasRisingDelays insn = IsStrictlyIncreasing (map (λ write. write.1) (register_writes insn))

-- each write comes within four delay slots, and within those of the instruction ("Delay Slots")
abbrev pub WritesInTime : Insn → Type 0
WritesInTime insn = All (λ write. (write.1 ≤ 4) × (write.1 ≤ delay_of (op_of insn))) (register_writes insn)

-- a load that changes its base writes the base at once, and then its destination
abbrev pub WritesBaseFirst : Insn → Type 0
WritesBaseFirst insn =
    (reg base : Reg) (form : AddressForm) (offset : Offset) → operands_of insn ≡ Access reg base form offset
    → IsTrue (is_load (op_of insn)) → IsTrue (changes_base form) → register_writes insn ≡ (base, 0) ∷ (reg, 4) ∷ []

-- nothing crosses to .D ("Register File Cross Paths")
abbrev pub CrossesNotToD : Insn → Type 0
CrossesNotToD insn =
    (unit : FunctionalUnit) → unit.letter ≡ D → IsTrue (takes (op_of insn) (operands_of insn) unit) → crosses_to unit.side (operands_of insn) ≡ false

-- what is no load writes registers of its unit's side alone ("Functional Units")
abbrev pub WritesOwnSide : Insn → Type 0
WritesOwnSide insn =
    (unit : FunctionalUnit) → IsTrue (takes (op_of insn) (operands_of insn) unit) → is_load (op_of insn) ≡ false
    → All (λ write. write.0.side ≡ unit.side) (register_writes insn)

-- an access goes over the path of the register that it loads or stores ("Memory, Load, and Store Paths")
abbrev pub UsesItsPath : Insn → Type 0
UsesItsPath insn = (reg base : Reg) (form : AddressForm) (offset : Offset) → operands_of insn ≡ Access reg base form offset
    → data_path_of (operands_of insn) ≡ Some reg.side

-- of two sources of ADD on different sides only the second may cross ("ADD")
abbrev pub CrossesSecond : Reg → Reg → Reg → Type 0
CrossesSecond crossed own destination =
    crossed.side ≢ destination.side → own.side ≡ destination.side
    → (form_fault Add (Three crossed own destination) None None ≡ Some NoUnit) × (form_fault Add (Three own crossed destination) None None ≡ None)

-- a constant of MPY is taken as it is ("MPY")
abbrev pub MultipliesByConstant : ℤ → Type 0
MultipliesByConstant k = (a d : Reg) (v : ℕ) → values_of Mpy (ConstantFirst k a d) (v ∷ []) ≡ word (k *ℤ sg_half (lo v)) ∷ []

-- a constant is subtracted by adding its negation ("SUB")
abbrev pub SubtractsByAdding : ℤ → Type 0
SubtractsByAdding k =
    (a d : Reg) (v : ℕ) → v < 2 ^ 32 → values_of Sub (ConstantSecond a k d) (v ∷ []) ≡ values_of Add (ConstantFirst (neg_ℤ k) a d) (v ∷ [])
