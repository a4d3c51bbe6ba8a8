-- How many cycles a block of issued instructions takes (docs/LISTING.md, "Length of a block"; SPRU189, "Delay Slots").
use Rattle.std.specs.Prelude.{ℕ, ◌+◌, max, List, [], ◌∷◌, find}
use Rattle.std.specs.Option.{option_map_or}
use Rattle.c62_op.specs.Shape.{is_branch}
use Rattle.c62_insn.specs.Insn.{op_of, register_writes, greatest_delay}
use Rattle.c62_rules.specs.PacketRules.{Issue}

-- the cycle after an instruction's last landing: what writes nothing lands in its issue cycle
abbrev pub landing_end : Issue → ℕ
landing_end p = p.cycle + greatest_delay (register_writes p.insn) + 1

-- the cycle after the last landing of all
abbrev pub last_landing_end : List Issue → ℕ
last_landing_end [] = 0
last_landing_end (p ∷ rest) = max (landing_end p) (last_landing_end rest)

-- the cycles of a block: a branch takes effect six cycles after its issue, and otherwise all has landed
abbrev pub length_of : List Issue → ℕ
length_of issues = option_map_or (λ branch. branch.cycle + 6) (find (λ p. is_branch (op_of p.insn)) issues) (last_landing_end issues)
