-- Direct dependences: those that no instruction between implies (docs/SCHEDULING.md, "Direct dependences").
use Rattle.std.specs.Prelude.{◌≡◌, ℕ, zero, suc, ◌+◌, ◌-◌, ℤ, pos, int_le, ◌+ℤ◌, ◌≤ℤ◌, Bool, true, false, not, ◌&&◌, ◌||◌, if◌then◌else◌, List, [], ◌++◌, length, Option, Some, None, is_none, slice_get}
use Rattle.std.specs.List.{list_any, flat_map, range_with_len}
use Rattle.c62_op.specs.declared.register.Reg.{Reg}
use Rattle.c62_op.specs.Shape.{is_load, is_store, is_branch}
use Rattle.c62_insn.specs.declared.insn.Insn.{Insn}
use Rattle.c62_insn.specs.Insn.{op_of, cond_of, register_writes, reads_register}
use Rattle.c62_rules.specs.Dependence.{writes_in, are_disjoint}
use Rattle.c62_depend.specs.declared.links.Link.{Link}
use Rattle.c62_depend.specs.Latency.{latency}
use Rattle.c62_depend.specs.Links.{linked}
use Rattle.c62_depend.specs.Height.{delay_at}

-- ---- registers

-- the instruction writes the register under no condition
abbrev pub always_writes : Reg → Option Insn → Bool
always_writes reg None = false
always_writes reg (Some insn) = is_none (cond_of insn) && writes_in reg (Some insn)

-- one of so many instructions from number i on does
abbrev pub is_settled_by : List Insn → ℕ → ℕ → Reg → Bool
is_settled_by block i zero reg = false
is_settled_by block i (suc count) reg = is_settled_by block i count reg || always_writes reg (slice_get block (i + count))

-- no instruction between numbers i and j writes the register under no condition
abbrev pub is_open : List Insn → ℕ → ℕ → Reg → Bool
is_open block i j reg = not (is_settled_by block (i + 1) (j - (i + 1)) reg)

-- the instruction reads or writes the register
abbrev pub uses_register : Insn → Reg → Bool
uses_register insn reg = reads_register insn reg || writes_in reg (Some insn)

-- q uses what the earlier p writes, or writes what p reads, in one of these registers
abbrev pub meet_in : (Reg → Bool) → Insn → Insn → Bool
meet_in these p q =
    list_any (λ write. these write.0 && uses_register q write.0) (register_writes p) || list_any (λ write. these write.0 && reads_register p write.0) (register_writes q)

-- ---- memory

-- two accesses of which one stores
abbrev pub are_ordered : Option Insn → Option Insn → Bool
are_ordered (Some p) (Some q) = (is_store (op_of p) && (is_load (op_of q) || is_store (op_of q))) || (is_load (op_of p) && is_store (op_of q))
are_ordered _ _ = false

-- numbers i and j access memory, one of them stores, and they are not disjoint
unfoldable pub keep_order : List Insn → ℕ → ℕ → Bool
keep_order block i j = are_ordered (slice_get block i) (slice_get block j) && not (are_disjoint block i j)

-- some number between has an order with both
unfoldable pub is_passed : List Insn → ℕ → ℕ → Bool
is_passed block i j = list_any (λ k. keep_order block i k && keep_order block k j) (range_with_len (i + 1) (j - (i + 1)))

-- ---- branches

abbrev pub is_branch_in : Option Insn → Bool
is_branch_in None = false
is_branch_in (Some insn) = is_branch (op_of insn)

-- once one of these has landed, number i has
abbrev pub land_behind : List Insn → ℕ → List Link → Bool
land_behind block i links = list_any (λ link. int_le (pos (delay_at block i)) (link.latency +ℤ pos (delay_at block link.number))) links

-- ---- all

abbrev pub meet_openly : List Insn → ℕ → ℕ → Option Insn → Option Insn → Bool
meet_openly block i j (Some p) (Some q) = meet_in (is_open block i j) p q
meet_openly block i j _ _ = false

-- number j depends directly on number i, which these before j depend on directly
unfoldable pub binds_beside : List Link → List Insn → ℕ → ℕ → Bool
binds_beside earlier block i j =
    meet_openly block i j (slice_get block i) (slice_get block j)
    || ((keep_order block i j && not (is_passed block i j)) || (is_branch_in (slice_get block j) && not (land_behind block i earlier)))

abbrev pub linked_if : Bool → ℕ → Option ℤ → List Link
linked_if applies number latency = if applies then linked number latency else []

-- what depends directly on number i, of the numbers before j, rising
abbrev pub direct_before : List Insn → ℕ → ℕ → List Link
direct_before block i zero = []
direct_before block i (suc j) = direct_before block i j ++ linked_if (binds_beside (direct_before block i j) block i j) j (latency block i j)

-- a dependence of number j on number i is direct
unfoldable pub is_direct : List Insn → ℕ → ℕ → Bool
is_direct block i j = binds_beside (direct_before block i j) block i j

-- the numbers that depend directly on i, rising, each with the latency to it
unfoldable pub direct_followers : List Insn → ℕ → List Link
direct_followers block i = direct_before block i (length block)

-- the numbers that j depends directly on, rising, each with the latency from it
unfoldable pub direct_needs : List Insn → ℕ → List Link
direct_needs block j = flat_map (λ i. linked_if (is_direct block i j) i (latency block i j)) (range_with_len 0 j)

-- ---- laws

-- number j depends directly on number i, by this latency
pub record IsDirect (block : List Insn) (i j : ℕ) (cycles : ℤ) : Type 0 where
  pub direct : is_direct block i j ≡ true
  pub is : latency block i j ≡ Some cycles

-- number j depends directly on number i
abbrev pub DependsDirectly : List Insn → ℕ → ℕ → Type 0
DependsDirectly block i j = (cycles : ℤ) × IsDirect block i j cycles

-- a chain of direct dependences leads from number i to number j, with this sum of latencies
pub data Chain (block : List Insn) (i : ℕ) : ℕ → ℤ → Type 0 where
  single : (j : ℕ) (cycles : ℤ) → IsDirect block i j cycles → Chain block i j cycles
  longer : (k j : ℕ) (sum cycles : ℤ) → Chain block i k sum → IsDirect block k j cycles → Chain block i j (sum +ℤ cycles)

-- a chain asks for as many cycles from number i to number j
abbrev pub IsImplied : List Insn → ℕ → ℕ → ℤ → Type 0
IsImplied block i j cycles = (sum : ℤ) × Chain block i j sum × (cycles ≤ℤ sum)

-- each dependence is implied by a chain of direct ones
abbrev pub DirectOnesBind : List Insn → Type 0
DirectOnesBind block = (i j : ℕ) (cycles : ℤ) → latency block i j ≡ Some cycles → IsImplied block i j cycles
