use Rattle.std.proofs.Common.{◌≡◌, ◌∙◌, ◌∷◌, [], ◌++◌, List, length, sym, ap, subst, append_assoc, append-nil, arith}
use Rattle.std.specs.Vec.Iter.{into_iter_items}
use Rattle.c62_read.specs.Block.{Serial}
use Rattle.c62_show.specs.declared.shown.Shown.{Shown}
use Rattle.c62_answer.specs.Schedule.{AreShown}
use Rattle.c62_answer.proofs.Schedules.{nothing_left, shown_more, shown_one}
use Rattle.c62_answer.proofs.schedule.shown_by_turns.Goals as goal

pub loop-block-preserved : goal.loop-block-preserved
loop-block-preserved c =
    let at = c.loop-block in
    let block = c.in-Some.block in
    let one : Shown = c.in_ok-one.one in
    let steps : into_iter_items at.block-iterator ≡ block ∷ into_iter_items c.next.new.self = c.in-Some.ensures.steps.0
    in
    let is = shown_one c.args.showing block c.in_ok-board.board one c.in_ok-board.ensures c.in_ok-one.ensures in
    let more = shown_more c.args.showing at.yielded at.shown.items block one at.invariant.1 is in (
      append_assoc at.yielded (block ∷ []) _ ∙ rw (← steps) at.invariant.0,
      subst (λ (whole : List Shown). AreShown c.args.showing (at.yielded ++ block ∷ []) whole)
          (sym c.in_ok-push.ensures.items) more,
      let was = at.invariant.2 in
          let gone = c.in-Some.ensures.steps.1 in
          let short = ap length steps in
          omega arith,
    )

pub returns : goal.returns
returns c =
    let at = c.loop-block in
    let none = c.in-None.ensures.steps in
    let empty : into_iter_items at.block-iterator ≡ [] = nothing_left _ (sym at.invariant.2 ∙ none.0) in
    let all = sym (append-nil at.yielded) ∙ rw empty at at.invariant.0
    ∙ c.into_iter-block-iterator.ensures.into_iter_gives.0 ∙ c.into_blocks-block-items.ensures.same in
    subst (λ (blocks : List Serial). AreShown c.args.showing blocks at.shown.items) all at.invariant.1
