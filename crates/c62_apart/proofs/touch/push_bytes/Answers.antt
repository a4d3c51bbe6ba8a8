use Rattle.std.proofs.Common.{◌+◌, ◌++◌, refl}
use Rattle.c62_apart.specs.Touch.{touches_from}
use Rattle.c62_apart.proofs.Touching.{touched_byte}
use Rattle.c62_apart.proofs.touch.push_bytes.Goals as goal

pub loop-offset-preserved : goal.loop-offset-preserved
loop-offset-preserved c = touched_byte c.args.first.visit c.args.first.line c.args.first.base c.args.first.byte
    c.loop-offset.offset c.args.size c.loop-offset.touches.items c.push.new.self.items
    (c.args.touches.now.items ++ touches_from c.args.first.visit c.args.first.line c.args.first.base
    c.args.first.byte c.args.size)
    (record {
      visit = c.args.first.visit;
      line = c.args.first.line;
      base = c.args.first.base;
      byte =
          c.args.first.byte + c.from.result;
    })
    c.loop-offset-test.true c.loop-offset.invariant (rw c.from.ensures refl) c.in_ok-push.ensures.items
