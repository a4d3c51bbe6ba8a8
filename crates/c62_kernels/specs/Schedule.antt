-- Where the tasks of a schedule are issued.
use Rattle.std.specs.Prelude.{ℕ, Bool, false, ◌==◌, List, Option, None, Some, unwrap_or, find}
use Rattle.std.specs.List.{slice_get}
use Rattle.std.specs.Option.{option_and_then}
use Rattle.c62_op.specs.declared.register.Unit.{Unit as FunctionalUnit}
use Rattle.c62_op.specs.Units.{all_units, index_of}
use Rattle.c62_kernels.specs.declared.slot.Slot.{Slot}
use Rattle.c62_kernels.specs.declared.modulo.Modulo.{Modulo}

-- the number of a task, and 0 where it has none
abbrev pub number_at : List ℕ → ℕ → ℕ
number_at numbers task = unwrap_or (slice_get numbers task) 0

-- the cycle of the kernel in which a task is issued
abbrev pub row_of : Modulo → ℕ → ℕ
row_of modulo task = number_at modulo.rows.items task

-- how many passes behind the first one it is issued
abbrev pub stage_of : Modulo → ℕ → ℕ
stage_of modulo task = number_at modulo.stages.items task

abbrev pub is_task : ℕ → Option (Option ℕ) → Bool
is_task task (Some (Some other)) = other == task
is_task task (Some None) = false
is_task task None = false

-- whether a task is issued on this unit
abbrev pub is_on : Slot → ℕ → FunctionalUnit → Bool
is_on slot task unit = is_task task (slice_get slot.seats (index_of unit))

-- the first unit on which a task is issued in its cycle
abbrev pub unit_of : Modulo → ℕ → Option FunctionalUnit
unit_of modulo task =
    option_and_then (λ (slot : Slot). find (is_on slot task) all_units) (slice_get modulo.slots.items (row_of modulo task))
