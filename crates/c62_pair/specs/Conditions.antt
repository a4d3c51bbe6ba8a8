-- Conditions as numbers, so that two of them are compared at once.
use Rattle.std.specs.Prelude.{ℕ, ◌+◌, ◌*◌, if◌then◌else◌, Option, Some, None}
use Rattle.c62_op.specs.declared.register.Cond.{Cond as Condition}
use Rattle.c62_op.specs.Register.{register_index}

-- the number of a condition, and 0 where there is none
abbrev pub test_of : Option Condition → ℕ
test_of None = 0
test_of (Some cond) = 2 * register_index cond.reg + (if cond.negated then 2 else 1)

-- the number of the opposite condition, and one that no condition has where there is none
abbrev pub opposite_of : Option Condition → ℕ
opposite_of None = 255
opposite_of (Some cond) = 2 * register_index cond.reg + (if cond.negated then 1 else 2)
