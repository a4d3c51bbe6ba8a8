use Rattle.std.proofs.Common.{rules, ◌≡◌, ◌∙◌, ◌∷◌, ◌++◌, [], List, length, sym, ap, subst, append_assoc, append-nil}
use Rattle.std.proofs.Common.{arith}
use Rattle.std.specs.Vec.Iter.{into_iter_items}
use Rattle.c62_read.specs.Block.{Serial}
use Rattle.c62_packet.specs.Packed.{Packed}
use Rattle.c62_refusals.specs.Given.{ArePackedByTurns}
use Rattle.c62_refusals.proofs.Packed.{packed_more, nothing_left}
use Rattle.c62_refusals.proofs.given.packets_of_program.Goals as goal

pub loop-block-preserved : goal.loop-block-preserved
loop-block-preserved c =
    let at = c.loop-block in
    let block = c.in-Some.block in
    let steps : into_iter_items at.block-iterator ≡ block ∷ into_iter_items c.next.new.self = c.in-Some.ensures.steps.0
    in (
      append_assoc at.yielded (block ∷ []) _ ∙ rw (← steps) at.invariant.0,
      subst (λ (all : List Packed). ArePackedByTurns (at.yielded ++ block ∷ []) all) (sym c.in_ok-packets.ensures)
          (packed_more at.yielded at.packets block c.in_ok-packed.packed at.invariant.1 c.in_ok-packed.ensures),
      let was = at.invariant.2 in
          let gone = c.in-Some.ensures.steps.1 in
          let short = ap length steps in
          omega arith,
    )

pub returns : goal.returns
returns c =
    let at = c.loop-block in
    let none = c.in-None.ensures.steps in
    let empty : into_iter_items at.block-iterator ≡ [] = nothing_left _ (sym at.invariant.2 ∙ none.0) in
    let all = sym (append-nil at.yielded) ∙ rw empty at at.invariant.0
    ∙ c.into_iter-block-iterator.ensures.into_iter_gives.0 ∙ c.into_blocks-block-items.ensures.same in
    subst (λ (blocks : List Serial). ArePackedByTurns blocks at.packets) all at.invariant.1
