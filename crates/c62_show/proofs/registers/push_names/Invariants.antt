use Rattle.std.proofs.Common.{◌≡◌, ◌++◌, drop}
use Rattle.std.specs.Prelude.{string_bytes}
use Rattle.c62_show.specs.Registers.{names}
use Rattle.c62_show.proofs.registers.push_names.Given as goal

abbrev pub invariant-loop-reg : goal.invariant-loop-reg
invariant-loop-reg l = string_bytes l.out ++ names (drop l.reg-index l.regs) ≡ string_bytes l.fn.out ++ names l.regs
