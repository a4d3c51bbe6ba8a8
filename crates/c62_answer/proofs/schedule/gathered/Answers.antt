use Rattle.std.proofs.Common.{◌≡◌, ◌∙◌, ◌∷◌, [], ◌++◌, ◌+◌, List, length, sym, ap, append_assoc, append-nil}
use Rattle.std.proofs.Common.{arith}
use Rattle.std.proofs.lemmas.List.{length-append}
use Rattle.std.specs.Vec.Iter.{into_iter_items}
use Rattle.c62_packet.specs.Packed.{Packed}
use Rattle.c62_answer.proofs.Schedules.{nothing_left}
use Rattle.c62_answer.proofs.schedule.gathered.Goals as goal

pub push-requires : goal.push-requires
push-requires c =
    let at = c.loop-block in
    let block = c.in-Some.block in
    let rest = into_iter_items c.next.new.self in
    let steps : into_iter_items at.block-iterator ≡ block ∷ rest = c.in-Some.ensures.steps.0 in
    let gives = c.into_iter-block-iterator.ensures.into_iter_gives.0 in
    let count : length at.packets + length (block ∷ rest) ≡ length c.args.made.items =
    sym (length-append at.packets (block ∷ rest)) ∙ ap length (rw (← steps) at.invariant.0) ∙ ap length gives in
    omega (arith, count, c.requires)

pub loop-block-preserved : goal.loop-block-preserved
loop-block-preserved c =
    let at = c.loop-block in
    let block = c.in-Some.block in
    let steps : into_iter_items at.block-iterator ≡ block ∷ into_iter_items c.next.new.self = c.in-Some.ensures.steps.0
    in (
      ap (λ (front : List Packed). front ++ into_iter_items c.next.new.self) c.in-Ok.ensures
          ∙ append_assoc at.packets (block ∷ []) _ ∙ rw (← steps) at.invariant.0,
      let was = at.invariant.1 in
          let gone = c.in-Some.ensures.steps.1 in
          let short = ap length steps in
          omega arith,
    )

pub returns : goal.returns
returns c =
    let at = c.loop-block in
    let none = c.in-None.ensures.steps in
    let empty : into_iter_items at.block-iterator ≡ [] = nothing_left _ (sym at.invariant.1 ∙ none.0) in
    sym (append-nil at.packets) ∙ rw empty at at.invariant.0 ∙ c.into_iter-block-iterator.ensures.into_iter_gives.0
