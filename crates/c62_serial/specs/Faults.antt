-- The set of lines whose accesses faulted, as a rising list (docs/MACHINE.md, "Memory").
use Rattle.std.specs.Prelude.{◌≡◌, ◌≤◌, ℕ, nat_lt, Bool, not, List, ◌∷◌, ◌++◌, filter, insert, length, Some, slice_get, Result, MatchResult, if◌then◌else◌}
use Rattle.c62_serial.specs.State.{Machine}
use Rattle.c62_serial.specs.Memory.{is_good, with_bytes}

-- the lines with this one among them: those below it, itself, those above it
abbrev pub joined : ℕ → List ℕ → List ℕ
joined line lines = filter (λ other. nat_lt other line) lines ++ line ∷ filter (λ other. nat_lt line other) lines

-- the index of a line among rising lines, or the one at which it joins them
abbrev pub FindsPlace : ℕ → List ℕ → Result ℕ ℕ → Type 0
FindsPlace line lines found = MatchResult found
    (λ index. (slice_get lines index ≡ Some line) × (joined line lines ≡ lines))
    (λ index. (index ≤ length lines) × (joined line lines ≡ insert lines index line))

abbrev pub with_fault : ℕ → Machine → Machine
with_fault line machine = record machine { faults = joined line machine.faults }

-- lines after an access of this one, which may fault
abbrev pub after_fault : List ℕ → ℕ → Bool → List ℕ
after_fault lines line fault = if fault then joined line lines else lines

abbrev pub with_fault_if : ℕ → Bool → Machine → Machine
with_fault_if line fault machine = record machine { faults = after_fault machine.faults line fault }

-- the machine after a store of the low bytes of a value at a place, which may fault
abbrev pub with_store : ℕ → ℕ → ℕ → ℕ → Machine → Machine
with_store line place size value machine = with_fault_if line (not (is_good place size)) (with_bytes place size value machine)
