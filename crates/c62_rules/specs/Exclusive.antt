-- Two writers of one register of which at most one runs, so that they need no order (docs/MACHINE.md, "Dependences").
use Rattle.std.specs.Prelude.{◌≡◌, ◌≢◌, ◌↔◌, ℕ, zero, suc, ◌+◌, ◌-◌, ◌<◌, ◌≤◌, Bool, false, not, ◌&&◌, ◌||◌, if◌then◌else◌, List, Contains, Option, Some, None, slice_get, IsTrue}
use Rattle.std.specs.List.{list_any}
use Rattle.c62_op.specs.declared.register.Reg.{Reg}
use Rattle.c62_op.specs.declared.register.Cond.{Cond as Condition}
use Rattle.c62_op.specs.Takes.{same_reg}
use Rattle.c62_insn.specs.declared.insn.Insn.{Insn}
use Rattle.c62_insn.specs.Insn.{cond_of, register_writes}
use Rattle.c62_insn.specs.Effect.{runs_of}

-- the instruction writes this register, executed or not
abbrev pub writes_in : Reg → Option Insn → Bool
writes_in reg None = false
writes_in reg (Some insn) = list_any (λ write. same_reg write.0 reg) (register_writes insn)

-- one of so many instructions from number i on writes this register
abbrev pub is_written_by : List Insn → ℕ → ℕ → Reg → Bool
is_written_by block i zero reg = false
is_written_by block i (suc count) reg = is_written_by block i count reg || writes_in reg (slice_get block (i + count))

-- no instruction from number i on and before number j writes this register, executed or not: i counts and j does not
abbrev pub IsUnwritten : List Insn → ℕ → ℕ → Reg → Type 0
IsUnwritten block i j reg =
    (k delay : ℕ) (insn : Insn) → i ≤ k → k < j → slice_get block k ≡ Some insn → Contains (register_writes insn) (reg, delay) → ⊥

-- [q] and [!q] of one register q
abbrev pub are_opposite : Condition → Condition → Bool
are_opposite one other = same_reg one.reg other.reg && (if one.negated then not other.negated else other.negated)

abbrev pub condition_in : Option Insn → Option Condition
condition_in None = None
condition_in (Some insn) = cond_of insn

abbrev pub exclusive_by : List Insn → ℕ → ℕ → Option Condition → Option Condition → Bool
exclusive_by block i j (Some one) (Some other) = are_opposite one other && not (is_written_by block i (j - i) one.reg)
exclusive_by block i j _ _ = false

-- of numbers i and j at most one runs: they stand under opposite conditions on a register that no instruction from i on
-- and before j writes
abbrev pub are_exclusive : List Insn → ℕ → ℕ → Bool
are_exclusive block i j = exclusive_by block i j (condition_in (slice_get block i)) (condition_in (slice_get block j))

-- ---- laws

-- both test one register, and whatever it holds exactly one of them holds
pub record ExactlyOneHolds (one other : Condition) : Type 0 where
  pub same : one.reg ≡ other.reg
  pub either : (value : ℕ) → runs_of (Some one) (Some value) ≡ not (runs_of (Some other) (Some value))

-- opposite are the conditions of which always exactly one holds
abbrev pub OppositeIsEither : Condition → Condition → Type 0
OppositeIsEither one other = IsTrue (are_opposite one other) ↔ ExactlyOneHolds one other

-- p and q, numbers i and j of a block, stand under opposite conditions on one register, which keeps its value from i
-- to j
pub record IsExclusive (block : List Insn) (i j : ℕ) (p q : Insn) : Type 0 where
  pub one : Condition
  pub other : Condition
  pub is_one : cond_of p ≡ Some one
  pub is_other : cond_of q ≡ Some other
  pub same : one.reg ≡ other.reg
  pub opposite : one.negated ≢ other.negated
  pub unwritten : IsUnwritten block i j one.reg

-- are_exclusive tells it
abbrev pub ExclusiveIsTold : List Insn → ℕ → ℕ → Insn → Insn → Type 0
ExclusiveIsTold block i j p q =
    i < j → slice_get block i ≡ Some p → slice_get block j ≡ Some q → IsTrue (are_exclusive block i j) ↔ IsExclusive block i j p q
