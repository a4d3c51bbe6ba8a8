use Rattle.std.proofs.Common.{◌≡◌, length}
use Rattle.c62_adopt_code.specs.Role.{behind_name}
use Rattle.c62_adopt_code.proofs.role.behind_name.Given as goal

abbrev pub invariant-loop-rest : goal.invariant-loop-rest
invariant-loop-rest l = behind_name l.rest ≡ behind_name l.bytes

abbrev pub decreases-loop-rest : goal.decreases-loop-rest
decreases-loop-rest l = length l.rest
