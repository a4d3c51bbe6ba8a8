-- The name that a branch is written with.
use Rattle.std.specs.Prelude.{ℕ, List, []}
use Rattle.c62_op.specs.declared.operands.Operands.{Operands}
use Rattle.c62_op.specs.declared.operands.Operands.TheVariants.{Block}
use Rattle.c62_op.specs.declared.register.Letter.{Letter}
use Rattle.c62_insn.specs.declared.insn.Insn.{Insn}
use Rattle.c62_insn.specs.Insn.{op_of, operands_of}
use Rattle.c62_insn.specs.Spelling.{operands_spelling}

abbrev pub target_name : (ℕ → List ℕ) → Operands → List ℕ
target_name name (Block number) = name number
target_name name _ = []

-- the operands of an instruction, which goes to this label where it goes to a block
abbrev pub operands_to : List ℕ → Insn → Letter → List ℕ
operands_to label insn letter = operands_spelling (λ _. label) (op_of insn) letter (operands_of insn)
