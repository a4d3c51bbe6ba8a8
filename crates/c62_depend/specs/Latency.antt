-- The greatest of the bounds from one instruction to another: that of each of the six cases, and of all (docs/MACHINE.md,
-- "Dependences"; SPRU189, "Delay Slots").
use Rattle.std.specs.Int.{int_max}
use Rattle.std.specs.Prelude.{ℕ, ◌+◌, nat_lt, slice_get, ℤ, pos, ◌-ℤ◌, Bool, not, ◌&&◌, ◌||◌, if◌then◌else◌, List, Option, Some, None, fold}
use Rattle.c62_op.specs.declared.register.Reg.{Reg}
use Rattle.c62_insn.specs.declared.insn.Insn.{Insn}
use Rattle.c62_op.specs.Takes.{same_reg}
use Rattle.c62_op.specs.Shape.{delay_of, is_load, is_store, is_branch}
use Rattle.c62_insn.specs.Insn.{op_of, register_writes, reads_register}
use Rattle.c62_rules.specs.Dependence.{are_exclusive, are_disjoint}

abbrev pub greater : Option ℤ → Option ℤ → Option ℤ
greater None b = b
greater (Some x) None = Some x
greater (Some x) (Some y) = Some (int_max x y)

-- the greatest of what f gives for the elements of a list
abbrev pub greatest_by : {X : Type 0} → (X → Option ℤ) → List X → Option ℤ
greatest_by f xs = fold (λ a x. greater a (f x)) None xs

-- 1: q reads what a write of the earlier p writes
abbrev pub awaits : Insn → Reg × ℕ → Option ℤ
awaits q w = if reads_register q w.0 then Some (pos (w.1 + 1)) else None

abbrev pub read_after_write : Insn → Insn → Option ℤ
read_after_write p q = greatest_by (awaits q) (register_writes p)

-- 2: p reads what a write of the later q writes
abbrev pub spares : Insn → Reg × ℕ → Option ℤ
spares p w = if reads_register p w.0 then Some (pos 0 -ℤ pos w.1) else None

abbrev pub write_after_read : Insn → Insn → Option ℤ
write_after_read p q = greatest_by (spares p) (register_writes q)

-- 3: both write one register, and are not exclusive
abbrev pub overwrites : Reg × ℕ → Reg × ℕ → Option ℤ
overwrites v w = if same_reg v.0 w.0 then Some (pos (v.1 + 1) -ℤ pos w.1) else None

abbrev pub write_after_write : Bool → Insn → Insn → Option ℤ
write_after_write exclusive p q = if exclusive then None else greatest_by (λ v. greatest_by (overwrites v) (register_writes q)) (register_writes p)

-- 4: an access comes after a store, and the two are not disjoint
abbrev pub access_after_store : Bool → Insn → Insn → Option ℤ
access_after_store disjoint p q = if not disjoint && (is_store (op_of p) && (is_load (op_of q) || is_store (op_of q))) then Some (pos 1) else None

-- 5: a store comes after a load, and the two are not disjoint
abbrev pub store_after_load : Bool → Insn → Insn → Option ℤ
store_after_load disjoint p q = if not disjoint && (is_load (op_of p) && is_store (op_of q)) then Some (pos 0) else None

-- 6: q is the branch
abbrev pub before_branch : Insn → Insn → Option ℤ
before_branch p q = if is_branch (op_of q) then Some (pos (delay_of (op_of p)) -ℤ pos 5) else None

-- the cases of registers, and the others
unfoldable pub by_registers : Bool → Insn → Insn → Option ℤ
by_registers exclusive p q = greater (read_after_write p q) (greater (write_after_read p q) (write_after_write exclusive p q))

abbrev pub by_order : Bool → Insn → Insn → Option ℤ
by_order disjoint p q = greater (access_after_store disjoint p q) (greater (store_after_load disjoint p q) (before_branch p q))

abbrev pub latency_of : Bool → Bool → Insn → Insn → Option ℤ
latency_of exclusive disjoint p q = greater (by_registers exclusive p q) (by_order disjoint p q)

abbrev pub between : Bool → Bool → Option Insn → Option Insn → Option ℤ
between exclusive disjoint (Some p) (Some q) = latency_of exclusive disjoint p q
between exclusive disjoint _ _ = None

-- the latency from number i of a block to number j: none where i doesn't stand before j or no case applies
unfoldable pub latency : List Insn → ℕ → ℕ → Option ℤ
latency block i j = if nat_lt i j then between (are_exclusive block i j) (are_disjoint block i j) (slice_get block i) (slice_get block j) else None
