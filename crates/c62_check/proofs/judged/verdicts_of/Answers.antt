use Rattle.std.proofs.Common.{rules, ◌≡◌, ◌<◌, min, length, refl, arith}
use Rattle.std.proofs.lemmas.Option.{slice_get_read}
use Rattle.c62_check.proofs.Beside.{all_verdicts, verdict_next}
use Rattle.c62_check.proofs.judged.verdicts_of.Goals as goal

pub loop-number-preserved : goal.loop-number-preserved
loop-number-preserved c =
    let at = c.loop-number in
    let blocks = c.args.blocks.now in
    let packets = c.args.packets.now in
    let low : at.number < length blocks = search rules in
    let within : at.number < length packets = search rules in
    verdict_next blocks packets at.number at.verdicts.items c.push.new.self.items c.index-blocks-number.result
    c.index-packets-number.result c.in_ok-verdict_of.field-0 at.invariant
    (slice_get_read blocks (length blocks) at.number c.index-blocks-number.result refl low c.index-blocks-number.is)
    (slice_get_read packets (length packets) at.number c.index-packets-number.result refl within
    c.index-packets-number.is)
    c.in_ok-verdict_of.ensures c.in_ok-push.ensures.items

pub returns : goal.returns
returns c =
    let end : c.loop-number.number ≡ min (length c.args.blocks.now) (length c.args.packets.now) = search rules in
    all_verdicts c.args.blocks.now c.args.packets.now c.loop-number.number c.loop-number.verdicts.items
    c.loop-number.invariant end
