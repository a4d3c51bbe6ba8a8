-- Lemmas on lengths.
use Rattle.std.proofs.Common.{ℕ, ◌+◌, max, List}
use Rattle.std.specs.Prelude.{find}
use Rattle.std.specs.Option.{option_map_or}
use Rattle.c62_op.specs.Shape.{is_branch}
use Rattle.c62_insn.specs.Insn.{op_of}
use Rattle.c62_rules.specs.PacketRules.{Issue}
use Rattle.c62_rules.specs.Length.{last_landing_end}

-- the length of a block of which these instructions are left, the others being no branches that have landed below `end`
abbrev pub length_after : ℕ → List Issue → ℕ
length_after end issues = option_map_or (λ branch. branch.cycle + 6) (find (λ p. is_branch (op_of p.insn)) issues)
    (max end (last_landing_end issues))
