use Rattle.std.proofs.Common.{◌≡◌, ◌++◌, drop}
use Rattle.std.specs.Prelude.{map}
use Rattle.c62_json_packets.specs.Member.{register}
use Rattle.c62_json_show.proofs.registers.push_each.Given as goal

abbrev pub invariant-loop-reg : goal.invariant-loop-reg
invariant-loop-reg l =
    (l.out.tokens ++ map register (drop l.reg-index l.regs) ≡ l.fn.out.tokens ++ map register l.regs)
    × (l.out.before ≡ l.fn.out.before)
