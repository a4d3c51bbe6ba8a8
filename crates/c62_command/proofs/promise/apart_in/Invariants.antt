use Rattle.std.proofs.Common.{◌≡◌, length}
use Rattle.c62_command.specs.Promises.{apart_in}
use Rattle.c62_command.proofs.PromiseLemmas.{behind_these}
use Rattle.c62_command.proofs.promise.apart_in.Given as goal

-- what the text says is said by what is left behind what has been
abbrev pub invariant-loop-reg : goal.invariant-loop-reg
invariant-loop-reg l = apart_in l.fn.text ≡ behind_these l.regs.items (apart_in l.rest)

abbrev pub decreases-loop-reg : goal.decreases-loop-reg
decreases-loop-reg l = length l.rest
