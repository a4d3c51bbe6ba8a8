-- How far two instructions of a block must stand apart (docs/MACHINE.md, "Dependences"; SPRU189, "Delay Slots").
use Rattle.std.specs.Prelude.{◌≡◌, ℕ, ◌+◌, ◌<◌, ◌⊎◌, ℤ, pos, ◌-ℤ◌, ◌≤ℤ◌, ◌+ℤ◌, false, List, Contains, Option, Some, MatchOption, slice_get, IsTrue}
use Rattle.c62_insn.specs.declared.insn.Insn.{Insn}
use Rattle.c62_op.specs.declared.register.Reg.{Reg}
use Rattle.c62_op.specs.Shape.{delay_of, is_load, is_store, is_branch}
use Rattle.c62_insn.specs.Insn.{op_of, register_writes, reads_register}
use Rattle.c62_rules.specs.PacketRules.{Issue, Issues, IsIssued, HasOneLanding}
pub use Rattle.c62_rules.specs.Exclusive.{writes_in, is_written_by, are_opposite, condition_in, exclusive_by, are_exclusive}
pub use Rattle.c62_rules.specs.Disjoint.{Range, begin_of, range_of, range_in, are_apart, disjoint_by, are_disjoint}

-- What the cycle of q, number j of a block, must at least exceed that of p, number i, by. A case each, for p before q.
pub data IsBound (block : List Insn) (i j : ℕ) (p q : Insn) (bound : ℤ) : Type 0 where
  -- q reads, as an operand or its condition, what p writes: it comes after the landing
  ReadAfterWrite : (reg : Reg) (delay : ℕ) → Contains (register_writes p) (reg, delay) → IsTrue (reads_register q reg) → bound ≡ pos (delay + 1)
      → IsBound block i j p q bound
  -- q writes what p reads: it lands in the cycle of p or later
  WriteAfterRead : (reg : Reg) (delay : ℕ) → Contains (register_writes q) (reg, delay) → IsTrue (reads_register p reg) → bound ≡ pos 0 -ℤ pos delay
      → IsBound block i j p q bound
  -- both write one register: q lands later
  WriteAfterWrite : (reg : Reg) (first second : ℕ) → Contains (register_writes p) (reg, first) → Contains (register_writes q) (reg, second)
      → are_exclusive block i j ≡ false → bound ≡ pos (first + 1) -ℤ pos second
      → IsBound block i j p q bound
  -- a load or store comes after a store
  AfterStore : IsTrue (is_store (op_of p)) → IsTrue (is_load (op_of q)) ⊎ IsTrue (is_store (op_of q)) → are_disjoint block i j ≡ false → bound ≡ pos 1
      → IsBound block i j p q bound
  -- a store comes with a load or after it
  StoreAfterLoad : IsTrue (is_load (op_of p)) → IsTrue (is_store (op_of q)) → are_disjoint block i j ≡ false → bound ≡ pos 0
      → IsBound block i j p q bound
  -- all has landed when a branch takes effect, six cycles after its issue
  BeforeBranch : IsTrue (is_branch (op_of q)) → bound ≡ pos (delay_of (op_of p)) -ℤ pos 5
      → IsBound block i j p q bound

-- what the cycle of number j must at least exceed that of number i by
pub record Bounds (block : List Insn) (i j : ℕ) (bound : ℤ) : Type 0 where
  pub first : Insn
  pub second : Insn
  pub is_first : slice_get block i ≡ Some first
  pub is_second : slice_get block j ≡ Some second
  pub before : i < j
  pub applies : IsBound block i j first second bound

-- j depends on i: some case applies
abbrev pub Depends : List Insn → ℕ → ℕ → Type 0
Depends block i j = (bound : ℤ) × Bounds block i j bound

pub record IsGreatestBound (block : List Insn) (i j : ℕ) (bound : ℤ) : Type 0 where
  pub applies : Bounds block i j bound
  pub greatest : (other : ℤ) → Bounds block i j other → other ≤ℤ bound

-- the latency from i to j: the greatest bound, and none where no case applies
abbrev pub IsLatency : List Insn → ℕ → ℕ → Option ℤ → Type 0
IsLatency block i j latency = MatchOption latency (Depends block i j → ⊥) (IsGreatestBound block i j)

-- issues of the instructions of a block that keep the bounds between them
pub record KeepsBounds (block : List Insn) (issues : Issues) : Type 0 where
  pub insns : (i : ℕ) (p : Issue) → IsIssued issues i p → slice_get block i ≡ Some p.insn
  pub keeps : (i j : ℕ) (bound : ℤ) (p q : Issue) → Bounds block i j bound → IsIssued issues i p → IsIssued issues j q → (pos p.cycle +ℤ bound) ≤ℤ pos q.cycle

-- what keeps the bounds keeps the fifth packet rule
abbrev pub BoundsKeepLandings : List Insn → Issues → Type 0
BoundsKeepLandings block issues = KeepsBounds block issues → HasOneLanding issues
