-- Why an instruction must come so many cycles behind another (docs/MACHINE.md, "Dependences").
use Rattle.std.specs.Prelude.{◌≡◌, ℕ, ◌+◌, ◌≤◌, ℤ, pos, ◌-ℤ◌, List, All, Contains, Option, Some, slice_get, MatchOption, IsTrue}
use Rattle.c62_op.specs.declared.register.Reg.{Reg}
use Rattle.c62_insn.specs.declared.insn.Insn.{Insn}
use Rattle.c62_insn.specs.Insn.{register_writes, reads_register}
use Rattle.c62_rules.specs.Dependence.{IsBound}
use Rattle.c62_rules.specs.Dependence.IsBound.{ReadAfterWrite, WriteAfterRead, WriteAfterWrite, AfterStore, StoreAfterLoad, BeforeBranch}
use Rattle.c62_reason.specs.declared.reason.Reason.{Reason}
use Rattle.c62_reason.specs.declared.reason.Reason.TheVariants.{Reads, Overwrites, Writes, AccessesMemory, StoresMemory, Branches}

-- a case of dependence as it is told
abbrev pub reason_of : {block : List Insn} {i j : ℕ} {p q : Insn} {bound : ℤ} → IsBound block i j p q bound → Reason
reason_of (ReadAfterWrite reg _ _ _ _) = Reads reg
reason_of (WriteAfterRead reg _ _ _ _) = Overwrites reg
reason_of (WriteAfterWrite reg _ _ _ _ _ _) = Writes reg
reason_of (AfterStore _ _ _ _) = AccessesMemory
reason_of (StoreAfterLoad _ _ _ _) = StoresMemory
reason_of (BeforeBranch _ _) = Branches

-- the place of its case in their order
abbrev pub place_of : Reason → ℕ
place_of (Reads reg) = 1
place_of (Overwrites reg) = 2
place_of (Writes reg) = 3
place_of AccessesMemory = 4
place_of StoresMemory = 5
place_of Branches = 6

-- for this reason q, number j of a block, must come so many cycles behind p, number i
abbrev pub AsksFor : List Insn → ℕ → ℕ → Insn → Insn → ℤ → Reason → Type 0
AsksFor block i j p q cycles reason = (bound : IsBound block i j p q cycles) × (reason_of bound ≡ reason)

-- for this reason, and for none of a case before it, number j must come so many cycles behind number i
pub record IsReason (block : List Insn) (i j : ℕ) (cycles : ℤ) (reason : Reason) : Type 0 where
  pub first : Insn
  pub second : Insn
  pub is_first : slice_get block i ≡ Some first
  pub is_second : slice_get block j ≡ Some second
  pub asks : AsksFor block i j first second cycles reason
  pub earliest : (other : Reason) → AsksFor block i j first second cycles other → place_of reason ≤ place_of other

-- q reads the register of an earlier write with this delay, and must come so many cycles behind it
abbrev pub IsRead : Insn → ℤ → Reg × ℕ → Type 0
IsRead q cycles write = IsTrue (reads_register q write.0) × (cycles ≡ pos (write.1 + 1))

-- p reads the register of a later write with this delay, which must come so many cycles behind it
abbrev pub IsSpared : Insn → ℤ → Reg × ℕ → Type 0
IsSpared p cycles write = IsTrue (reads_register p write.0) × (cycles ≡ pos 0 -ℤ pos write.1)

-- a later write is of the register of an earlier one, and must come so many cycles behind it
abbrev pub IsBehind : ℤ → Reg × ℕ → Reg × ℕ → Type 0
IsBehind cycles earlier write = (write.0 ≡ earlier.0) × (cycles ≡ pos (earlier.1 + 1) -ℤ pos write.1)

-- q has such a write
abbrev pub IsOverwritten : Insn → ℤ → Reg × ℕ → Type 0
IsOverwritten q cycles earlier = (write : Reg × ℕ) × Contains (register_writes q) write × IsBehind cycles earlier write

-- none of these writes is such, or one that is such is of this register
abbrev pub FindsWrite : (Reg × ℕ → Type 0) → List (Reg × ℕ) → Option Reg → Type 0
FindsWrite Is writes found = MatchOption found (All (λ write. Is write → ⊥) writes) (λ reg. (delay : ℕ) × Contains writes (reg, delay) × Is (reg, delay))

-- ---- laws

-- there is no second such reason
abbrev pub HasOneReason : List Insn → ℕ → ℕ → ℤ → Type 0
HasOneReason block i j cycles = (one other : Reason) → IsReason block i j cycles one → IsReason block i j cycles other → one ≡ other
