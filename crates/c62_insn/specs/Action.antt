-- What an action tells of an instruction: its writes, their values, its access and its branch are those of Shape and Effect.
use Rattle.std.specs.Prelude.{◌≡◌, ℕ, Bool, if◌then◌else◌, List, [], ◌∷◌, ◌++◌, map, Option, Some, None, option_map, slice_index}
use Rattle.c62_op.specs.declared.register.Reg.{Reg}
use Rattle.c62_op.specs.declared.register.Cond.{Cond as Condition}
use Rattle.c62_op.specs.declared.operands.Op.{Op}
use Rattle.c62_op.specs.declared.operands.AddressForm.{AddressForm}
use Rattle.c62_op.specs.declared.operands.Offset.{Offset}
use Rattle.c62_op.specs.declared.operands.Offset.TheVariants.{Constant as ByConstant, Register as ByRegister}
use Rattle.c62_op.specs.declared.operands.Operands.{Operands}
use Rattle.c62_op.specs.declared.operands.Operands.TheVariants.{Access}
use Rattle.c62_insn.specs.declared.effect.Access.{Access as MemoryAccess}
use Rattle.c62_insn.specs.declared.effect.Target.{Target}
use Rattle.c62_insn.specs.declared.insn.Insn.{Insn}
use Rattle.c62_insn.specs.declared.action.Transfer.{Transfer}
use Rattle.c62_insn.specs.declared.action.Action.{Action}
use Rattle.c62_insn.specs.declared.action.Action.TheVariants.{Write, Transfer as Transfers, Branch}
use Rattle.c62_op.specs.Word.{word}
use Rattle.c62_op.specs.Register.{register_index}
use Rattle.c62_op.specs.Shape.{reads_of, writes_of, delay_of}
use Rattle.c62_insn.specs.Insn.{op_of, operands_of}
use Rattle.c62_insn.specs.Effect.{runs_of, values_of, access_of, target_of}

-- the word of a register among those of A0 to A15 and B0 to B15
abbrev pub word_at : List ℕ → Reg → ℕ
word_at registers reg = slice_index registers (register_index reg)

-- the word of the condition's register
abbrev pub condition_word : (Reg → ℕ) → Option Condition → Option ℕ
condition_word words cond = option_map (λ cond. words cond.reg) cond

-- whether an instruction under this condition runs
abbrev pub runs_with : (Reg → ℕ) → Option Condition → Bool
runs_with words cond = runs_of cond (condition_word words cond)

-- the words that the operands read
abbrev pub operand_words : (Reg → ℕ) → Op → Operands → List ℕ
operand_words words op operands = map words (reads_of op operands)

abbrev pub base_writes : Option (Reg × ℕ) → List (Reg × ℕ)
base_writes None = []
base_writes (Some base) = (base.0, 0) ∷ []

abbrev pub base_values : Option (Reg × ℕ) → List ℕ
base_values None = []
base_values (Some base) = base.1 ∷ []

abbrev pub load_writes : Op → Option Reg → List (Reg × ℕ)
load_writes op None = []
load_writes op (Some reg) = (reg, delay_of op) ∷ []

-- the writes with their delays
abbrev pub writes_in : Op → Action → List (Reg × ℕ)
writes_in op (Write reg value) = (reg, delay_of op) ∷ []
writes_in op (Transfers transfer) = base_writes transfer.base ++ load_writes op transfer.loads
writes_in op (Branch target) = []

-- their values, without that of a load's destination
abbrev pub values_in : Action → List ℕ
values_in (Write reg value) = value ∷ []
values_in (Transfers transfer) = base_values transfer.base
values_in (Branch target) = []

abbrev pub access_in : Action → Option MemoryAccess
access_in (Transfers transfer) = Some transfer.access
access_in _ = None

abbrev pub target_in : Action → Option Target
target_in (Branch target) = Some target
target_in _ = None

-- what an instruction does with the words of its reads where it runs, and nothing where it does not
abbrev pub values_where : Bool → Insn → List ℕ → List ℕ
values_where runs insn reads = if runs then values_of (op_of insn) (operands_of insn) reads else []

abbrev pub access_where : Bool → Insn → List ℕ → Option MemoryAccess
access_where runs insn reads = if runs then access_of (op_of insn) (operands_of insn) reads else None

abbrev pub target_where : Bool → Insn → List ℕ → Option Target
target_where runs insn reads = if runs then target_of (operands_of insn) reads else None

-- the action of an operation on these operands, where registers have these words
pub record IsAction (op : Op) (operands : Operands) (words : Reg → ℕ) (action : Action) : Type 0 where
  pub writes : writes_in op action ≡ writes_of op operands
  pub values : values_in action ≡ values_of op operands (operand_words words op operands)
  pub access : access_in action ≡ access_of op operands (operand_words words op operands)
  pub target : target_in action ≡ target_of operands (operand_words words op operands)

abbrev pub IsActionOf : Insn → (Reg → ℕ) → Action → Type 0
IsActionOf insn words action = IsAction (op_of insn) (operands_of insn) words action

abbrev pub IsTransfer : Op → Reg → Reg → AddressForm → Offset → (Reg → ℕ) → Transfer → Type 0
IsTransfer op reg base form offset words transfer = IsAction op (Access reg base form offset) words (Transfers transfer)

-- the offset of an address, not yet times the size
abbrev pub offset_word : (Reg → ℕ) → Offset → ℕ
offset_word words (ByConstant k) = word k
offset_word words (ByRegister reg) = words reg
