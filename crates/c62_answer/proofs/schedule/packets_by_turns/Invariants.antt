use Rattle.std.proofs.Common.{◌≡◌, ◌++◌, length}
use Rattle.std.specs.Vec.Iter.{into_iter_items, into_iter_len}
use Rattle.c62_answer.specs.Schedule.{AreScheduled}
use Rattle.c62_answer.proofs.schedule.packets_by_turns.Given as goal

abbrev pub invariant-loop-block : goal.invariant-loop-block
invariant-loop-block l = (l.yielded ++ into_iter_items l.block-iterator ≡ into_iter_items l.initial.block-iterator)
    × AreScheduled l.packing l.yielded l.packets
    × (into_iter_len l.block-iterator ≡ length (into_iter_items l.block-iterator))
