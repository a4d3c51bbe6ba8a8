-- A bound as one number, so that the greatest of many is found fast: 6 more than its cycles, which are -5 or more, and 0
-- where there is none.
use Rattle.std.specs.Prelude.{ℕ, ◌+◌, ◌-◌, ◌==◌, max, ℤ, pos, ◌-ℤ◌, Bool, not, ◌&&◌, ◌||◌, if◌then◌else◌, Option, Some, None}
use Rattle.c62_insn.specs.declared.insn.Insn.{Insn}
use Rattle.c62_op.specs.Shape.{delay_of, is_load, is_store, is_branch}
use Rattle.c62_insn.specs.Insn.{op_of}
use Rattle.c62_pair.specs.declared.uses.Uses.{Uses}
use Rattle.c62_pair.specs.RegSet.{shares}

abbrev pub as_bound : ℕ → Option ℤ
as_bound number = if number == 0 then None else Some (pos number -ℤ pos 6)

abbrev pub number_if : Bool → ℕ → ℕ
number_if applies number = if applies then number else 0

-- 1: the later one reads what the earlier one writes
abbrev pub number_awaited : Uses → Uses → ℕ
number_awaited p q = max (number_if (shares p.results q.reads) (p.delay + 7)) (number_if (shares p.at_once q.reads) 7)

-- 2: the later one writes what the earlier one reads
abbrev pub number_spared : Uses → Uses → ℕ
number_spared p q = max (number_if (shares p.reads q.at_once) 6) (number_if (shares p.reads q.results) (6 - q.delay))

-- 3: both write one register, the earlier one with its delay, or at once
abbrev pub number_after_result : Uses → Uses → ℕ
number_after_result p q =
    max (number_if (shares p.results q.at_once) (p.delay + 7)) (number_if (shares p.results q.results) (p.delay + 7 - q.delay))

abbrev pub number_after_at_once : Uses → Uses → ℕ
number_after_at_once p q = max (number_if (shares p.at_once q.at_once) 7) (number_if (shares p.at_once q.results) (7 - q.delay))

abbrev pub number_overwritten : Bool → Uses → Uses → ℕ
number_overwritten exclusive p q = if exclusive then 0 else max (number_after_result p q) (number_after_at_once p q)

-- 4: an access comes after a store
abbrev pub number_after_store : Bool → Insn → Insn → ℕ
number_after_store disjoint p q = number_if (not disjoint && (is_store (op_of p) && (is_load (op_of q) || is_store (op_of q)))) 7

-- 5: a store comes after a load
abbrev pub number_after_load : Bool → Insn → Insn → ℕ
number_after_load disjoint p q = number_if (not disjoint && (is_load (op_of p) && is_store (op_of q))) 6

-- 6: the later one is the branch
abbrev pub number_before_branch : Insn → Insn → ℕ
number_before_branch p q = number_if (is_branch (op_of q)) (delay_of (op_of p) + 1)

-- the cases of registers, and the others
abbrev pub number_of_registers : Bool → Uses → Uses → ℕ
number_of_registers exclusive p q = max (number_awaited p q) (max (number_spared p q) (number_overwritten exclusive p q))

abbrev pub number_of_order : Bool → Insn → Insn → ℕ
number_of_order disjoint p q = max (number_after_store disjoint p q) (max (number_after_load disjoint p q) (number_before_branch p q))
