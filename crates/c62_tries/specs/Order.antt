-- What a list places first (docs/SCHEDULING.md, "Shorter by lists").
use Rattle.std.specs.Prelude.{◌≡◌, ◌⊎◌, ℕ, ◌-◌, ◌/◌, ◌<◌, List, length, slice_index}
use Rattle.c62_insn.specs.declared.insn.Insn.{Insn}
use Rattle.c62_depend.specs.Height.{height}
use Rattle.c62_tries.specs.declared.order.Way.{Way}
use Rattle.c62_tries.specs.declared.order.Way.TheVariants.{Forward, Backward}

-- of two instructions the one of greater height is more urgent, and of two of one height the one of lower number
abbrev pub HasHighestFirst : List Insn → List ℕ → Type 0
HasHighestFirst block urgency = (i j : ℕ) → i < length block → j < length block
    → (height block j < height block i) ⊎ ((height block i ≡ height block j) × (i < j))
    → slice_index urgency j < slice_index urgency i

-- what stands in this cycle is so urgent, but for its number, which counts less than a cycle
abbrev pub IsUrgencyBy : Way → ℕ → ℕ → Type 0
IsUrgencyBy Forward cycle urgency = urgency / 256 ≡ 65535 - cycle
IsUrgencyBy Backward cycle urgency = urgency / 256 ≡ cycle

-- from the first cycle on what stands earlier is more urgent, and from the last cycle back what stands later
abbrev pub HasEarliestFirst : Way → List ℕ → List ℕ → Type 0
HasEarliestFirst Forward cycles urgency = (i j : ℕ) → i < length cycles → j < length cycles
    → slice_index cycles i < slice_index cycles j → slice_index urgency j < slice_index urgency i
HasEarliestFirst Backward cycles urgency = (i j : ℕ) → i < length cycles → j < length cycles
    → slice_index cycles j < slice_index cycles i → slice_index urgency j < slice_index urgency i
