use Rattle.std.proofs.Common.{refl}
use Rattle.c62_live.proofs.LiveEach.{next_register}
use Rattle.c62_live.proofs.rows.registers.Goals as goal

pub loop-number-preserved : goal.loop-number-preserved
loop-number-preserved c =
    let at = c.loop-number in
    next_register c.args.side at.regs.items c.push.new.self.items _ at.number _ c.loop-number-test.true refl
    at.invariant
    c.in_ok-push.ensures.items refl refl
