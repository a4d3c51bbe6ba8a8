use Rattle.c62_op.specs.declared.register.Side.TheVariants.{A}
use Rattle.c62_work.proofs.Ranks.{rank}
use Rattle.c62_work.proofs.Steps.{HasTaken}
use Rattle.c62_work.proofs.alternating.turns.Given as goal

abbrev pub invariant-loop-first : goal.invariant-loop-first
invariant-loop-first l = HasTaken l.fn.board A l.board

abbrev pub decreases-loop-first : goal.decreases-loop-first
decreases-loop-first l = rank l.board
