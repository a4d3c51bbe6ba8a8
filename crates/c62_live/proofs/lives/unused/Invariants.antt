use Rattle.std.proofs.Common.{◌≡◌, ◌++◌, drop}
use Rattle.std.specs.Prelude.{not}
use Rattle.std.specs.List.{filter}
use Rattle.c62_live.specs.Live.{is_used}
use Rattle.c62_live.proofs.lives.unused.Given as goal

abbrev pub invariant-loop-reg : goal.invariant-loop-reg
invariant-loop-reg l =
    l.unused.items ++ filter (λ reg. not (is_used l.placed reg)) (drop l.reg-index l.regs) ≡ filter
    (λ reg. not (is_used l.placed reg)) l.regs
