-- The dependences of an instruction, as lists.
use Rattle.std.specs.Prelude.{ℕ, ◌+◌, ◌-◌, ℤ, List, [], ◌∷◌, length, Option, Some, None}
use Rattle.std.specs.List.{flat_map, range_with_len}
use Rattle.c62_insn.specs.declared.insn.Insn.{Insn}
use Rattle.c62_depend.specs.declared.links.Link.{Link}
use Rattle.c62_depend.specs.Latency.{latency}

-- this number with its latency, where there is one
abbrev pub linked : ℕ → Option ℤ → List Link
linked number None = []
linked number (Some latency) = record { number = number; latency = latency } ∷ []

-- the numbers that depend on i, rising, each with the latency to it
unfoldable pub followers : List Insn → ℕ → List Link
followers block i = flat_map (λ j. linked j (latency block i j)) (range_with_len (i + 1) (length block - (i + 1)))
