use Rattle.std.proofs.Common.{◌≡◌, length}
use Rattle.c62_dumping.specs.Limit.{contains}
use Rattle.c62_dumping.proofs.limit.contains.Given as goal

-- what begins somewhere from here on is in the whole text, and nothing else is
abbrev pub invariant-loop-rest : goal.invariant-loop-rest
invariant-loop-rest l = contains l.fn.bytes l.fn.text ≡ contains l.fn.bytes l.rest

abbrev pub decreases-loop-rest : goal.decreases-loop-rest
decreases-loop-rest l = length l.rest
