use Rattle.std.proofs.lemmas.Result.{IfOk-weaker}
use Rattle.c62_answer.proofs.Given.{adopted_stands}
use Rattle.c62_teach.proofs.Strict.{written_none, written_some}
use Rattle.c62_teach.proofs.faults.written_told.Goals as goal

pub returns-in-Ok : goal.returns-in-Ok
returns-in-Ok c =
    IfOk-weaker c.packets_told.result _ _
    (λ more tells. written_some c.args.isa c.args.start.now.settings.items c.args.start.now.course c.args.text.now
    more.items
    c.in-Ok.adopted.packets
    (adopted_stands c.args.isa c.args.text.now c.in-Ok.adopted.packets c.in-Ok.adopted.added
    (c.texts_that_stand_lack_nothing.ensures c.args.isa c.args.text.now c.in-Ok.adopted.packets)
    c.in-Ok.ensures.adopted) tells)
    c.packets_told.ensures

pub returns : goal.returns
returns c = written_none c.args.isa c.args.start.now.settings.items c.args.start.now.course c.args.text.now
    c.new.result.items
    c.in-Err.fault c.in_default.not-Memory c.in-Err.ensures.adopted c.new.ensures.items
