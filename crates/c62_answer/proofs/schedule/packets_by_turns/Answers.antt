use Rattle.std.proofs.Common.{◌≡◌, ◌∙◌, ◌∷◌, [], ◌≤◌, List, length, sym, ap, subst, append_assoc, append-nil, arith}
use Rattle.std.specs.Vec.Iter.{into_iter_items}
use Rattle.c62_read.specs.Block.{Serial, targets_stand}
use Rattle.c62_answer.specs.Schedule.{AreScheduled}
use Rattle.c62_answer.proofs.Schedules.{closed, few_left, nothing_left, scheduled_next}
use Rattle.c62_answer.proofs.schedule.packets_by_turns.Goals as goal
use Rattle.c62_read.specs.declared.limits.TheConstants.{MOST_BLOCKS}

pub push_packets-requires-clause-few : goal.push_packets-requires-clause-few
push_packets-requires-clause-few c =
    let at = c.loop-block in
    let block = c.in-Some.block in
    let steps : into_iter_items at.block-iterator ≡ block ∷ into_iter_items c.next.new.self = c.in-Some.ensures.steps.0
    in
    let all = into_iter_items c.into_iter-block-iterator.result in
    let few : length all ≤ MOST_BLOCKS = rw c.into_iter-block-iterator.ensures.into_iter_gives.0
    c.into_blocks-block-items.ensures.few in
    few_left c.args.packing all at.yielded (into_iter_items c.next.new.self) block at.packets
    (rw (← steps) at.invariant.0) few at.invariant.1

pub loop-block-preserved : goal.loop-block-preserved
loop-block-preserved c =
    let at = c.loop-block in
    let block = c.in-Some.block in
    let steps : into_iter_items at.block-iterator ≡ block ∷ into_iter_items c.next.new.self = c.in-Some.ensures.steps.0
    in (
      append_assoc at.yielded (block ∷ []) _ ∙ rw (← steps) at.invariant.0,
      scheduled_next c.args.packing at.yielded at.packets c.push_packets.new.packets block c.in_ok-board.board
          at.invariant.1 c.in_ok-board.ensures c.in_ok-push_packets.ensures.pushed,
      let was = at.invariant.2 in
          let gone = c.in-Some.ensures.steps.1 in
          let short = ap length steps in
          omega arith,
    )

pub returns-clause-packed : goal.returns-clause-packed
returns-clause-packed c =
    let at = c.loop-block in
    let none = c.in-None.ensures.steps in
    let empty : into_iter_items at.block-iterator ≡ [] = nothing_left _ (sym at.invariant.2 ∙ none.0) in
    let all = sym (append-nil at.yielded) ∙ rw empty at at.invariant.0
    ∙ c.into_iter-block-iterator.ensures.into_iter_gives.0 ∙ c.into_blocks-block-items.ensures.same in
    subst (λ (blocks : List Serial). AreScheduled c.args.packing blocks at.packets) all at.invariant.1

pub returns-clause-closed : goal.returns-clause-closed
returns-clause-closed c =
    let at = c.loop-block in
    let none = c.in-None.ensures.steps in
    let empty : into_iter_items at.block-iterator ≡ [] = nothing_left _ (sym at.invariant.2 ∙ none.0) in
    let all = sym (append-nil at.yielded) ∙ rw empty at at.invariant.0
    ∙ c.into_iter-block-iterator.ensures.into_iter_gives.0 in
    closed c.args.packing at.yielded at.packets at.invariant.1 (ap targets_stand all
    ∙ c.into_blocks-block-items.ensures.sound)
