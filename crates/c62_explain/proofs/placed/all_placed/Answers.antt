use Rattle.std.proofs.Common.{rules}
use Rattle.c62_explain.proofs.PlacedLemmas.{placed_next}
use Rattle.c62_explain.proofs.placed.all_placed.Goals as goal

pub loop-fault-preserved : goal.loop-fault-preserved
loop-fault-preserved c =
    placed_next c.args.isa c.args.text.now c.args.faults.now c.loop-fault.fault-index c.loop-fault.all.items
    c.push.new.self.items c.in_ok-placed_in.field-0 _ (search rules) c.in_ok-placed_in.ensures.same
    c.in_ok-placed_in.ensures.there c.loop-fault.invariant (search rules)
