use Rattle.std.proofs.Common.{arith, refl}
use Rattle.c62_live.proofs.Numbered.{none_yet, one_more, all_registers}
use Rattle.c62_live.proofs.lives.registers_of.Goals as goal

pub loop-number-init : goal.loop-number-init
loop-number-init c = none_yet c.args.side c.in_ok-regs.regs.items c.in_ok-regs.ensures.items

pub loop-number-preserved : goal.loop-number-preserved
loop-number-preserved c =
    one_more c.args.side c.loop-number.regs.items c.push.new.self.items _ c.loop-number.number
    c.in_ok-push.ensures.items refl refl c.loop-number.invariant

pub returns : goal.returns
returns c = all_registers c.args.side c.loop-number.regs.items c.loop-number.number
    (let ends = c.loop-number-test.false in let most = c.loop-number.auto in omega (arith, ends, most))
    c.loop-number.invariant
