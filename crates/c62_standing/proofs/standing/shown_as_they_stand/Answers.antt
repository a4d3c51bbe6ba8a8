use Rattle.std.proofs.Common.{arith, ◌∙◌, List, ap, get_or, length, subst}
use Rattle.std.specs.List.{AllZip}
use Rattle.std.proofs.lemmas.List.{take_all}
use Rattle.c62_packet.specs.Packed.{Packed}
use Rattle.c62_standing.specs.Standing.{IsStanding}
use Rattle.c62_standing.proofs.Stands.{one_more}
use Rattle.c62_standing.proofs.standing.shown_as_they_stand.Goals as goal

pub loop-block-preserved : goal.loop-block-preserved
loop-block-preserved c =
    let same = c.blocks-block-items.ensures.same in
    let long = ap (λ (blocks : List Packed). length blocks) same in
    let place = c.loop-block.block-index in
    let block = c.block-item.result in
    one_more (IsStanding c.args.details) c.args.packets.now place block c.loop-block.shown.items c.push.new.self.items
    c.in_ok-shown_block.field-0
    (omega (arith, c.loop-block-test.true, long)) (c.block-item.is
    ∙ ap (λ (blocks : List Packed). get_or blocks place block) same)
    c.in_ok-push.ensures.items c.loop-block.invariant c.in_ok-shown_block.ensures

pub returns : goal.returns
returns c =
    let long = ap (λ (blocks : List Packed). length blocks) c.blocks-block-items.ensures.same in
    subst (λ (blocks : List Packed). AllZip (IsStanding c.args.details) blocks c.loop-block.shown.items)
    (take_all c.loop-block.block-index c.args.packets.now (omega (arith, c.loop-block-test.false, long)))
    c.loop-block.invariant
