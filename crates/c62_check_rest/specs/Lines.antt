-- The lines of a block that belongs to no loop (docs/CHECK.md, "Other blocks").
use Rattle.std.specs.Prelude.{ℕ, List, codes}
use Rattle.c62_packet.specs.declared.fault.BlockFault.{BlockFault}
use Rattle.c62_packet.specs.declared.fault.BlockFault.TheVariants.{TwoBranches, NotDrained, Unlawful}
use Rattle.c62_check.specs.Lines.{block_line, verdict_lines}
use Rattle.c62_check_rest.specs.declared.verdict.RestVerdict.{RestVerdict}
use Rattle.c62_check_rest.specs.declared.verdict.RestVerdict.TheVariants.{Checked, Faulty, Undrained, Unchecked}

abbrev pub fault_words : BlockFault → List ℕ
fault_words TwoBranches = codes "branches"
fault_words NotDrained = codes "undrained"
fault_words (Unlawful cycle rule) = codes "clash"

-- `block K same`, and what else is told of it
abbrev pub rest_lines : ℕ → RestVerdict → List ℕ
rest_lines number (Checked answer) = verdict_lines number answer
rest_lines number (Faulty fault) = block_line number (fault_words fault)
rest_lines number Undrained = block_line number (codes "undrained")
rest_lines number Unchecked = block_line number (codes "unchecked")
