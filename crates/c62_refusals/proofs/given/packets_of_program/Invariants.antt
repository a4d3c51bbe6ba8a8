use Rattle.std.proofs.Common.{◌≡◌, ◌++◌, length}
use Rattle.std.specs.Vec.Iter.{into_iter_items, into_iter_len}
use Rattle.c62_refusals.specs.Given.{ArePackedByTurns}
use Rattle.c62_refusals.proofs.given.packets_of_program.Given as goal

-- the blocks so far are packed
abbrev pub invariant-loop-block : goal.invariant-loop-block
invariant-loop-block l = (l.yielded ++ into_iter_items l.block-iterator ≡ into_iter_items l.initial.block-iterator)
    × ArePackedByTurns l.yielded l.packets
    × (into_iter_len l.block-iterator ≡ length (into_iter_items l.block-iterator))
