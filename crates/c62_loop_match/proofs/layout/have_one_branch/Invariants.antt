use Rattle.std.proofs.Common.{ℕ, ◌<◌, get_or}
use Rattle.c62_packet.specs.Packed.{HaveOneBranch}
use Rattle.c62_rows.specs.declared.rows.Row.{Row}
use Rattle.c62_loop_match.proofs.layout.have_one_branch.Given as goal

abbrev pub invariant-loop-row : goal.invariant-loop-row
invariant-loop-row l = (k : ℕ) (d : Row) → k < l.row-index → HaveOneBranch (get_or l.rows k d).insns.items
