use Rattle.std.proofs.Common.{◌+◌, List, drop, map, sym, ◌∙◌, ap}
use Rattle.c62_read.specs.declared.block.SerialInsn.{SerialInsn}
use Rattle.c62_apart.specs.Touch.{alone}
use Rattle.c62_apart.proofs.Touching.{drop_more, moved_next, part_at, ran_next, touched_next}
use Rattle.c62_apart.proofs.run.run_touching.Goals as goal

pub loop-index-preserved : goal.loop-index-preserved
loop-index-preserved c =
    let cut = drop_more c.insns-insns.result.now c.loop-index.index c.index-insns-index.result c.loop-index-test.true
    c.index-insns-index.is in
    let is = part_at c.args.parts.now c.insns-insns.result.now c.loop-index.index c.index-parts-index.result
    c.index-insns-index.result
    (c.requires ∙ ap (λ (insns : List SerialInsn). map alone insns) (sym c.insns-insns.ensures.same))
    c.loop-index-test.true c.index-parts-index.is c.index-insns-index.is in
    record {
      ran = ran_next c.loop-index.state.machine c.run_one.new.state.machine c.loop-index.exit c.in_ok-exit.exit
          c.index-parts-index.result c.index-insns-index.result
          (drop (c.loop-index.index + 1) c.insns-insns.result.now) _ is
          (rw cut at c.loop-index.invariant.ran) c.in_ok-exit.ensures.machine c.in_ok-exit.ensures.exit;
      touched = touched_next c.args.regs.now c.args.visit c.loop-index.touches.items c.push_touches.new.touches.items
          c.loop-index.state.machine c.run_one.new.state.machine c.index-insns-index.result
          (drop (c.loop-index.index + 1) c.insns-insns.result.now) c.in_ok-push_touches.ensures
          (moved_next c.loop-index.state.machine c.run_one.new.state.machine c.index-parts-index.result
          c.index-insns-index.result is c.in_ok-exit.ensures.machine)
          ∙ (rw cut at c.loop-index.invariant.touched);
    }
