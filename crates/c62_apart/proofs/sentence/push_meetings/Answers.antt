use Rattle.std.proofs.Common.{◌++◌}
use Rattle.std.specs.List.{flat_map}
use Rattle.c62_apart.specs.Sentence.{mine_line}
use Rattle.c62_apart.proofs.Telling.{told_next}
use Rattle.c62_apart.proofs.sentence.push_meetings.Goals as goal

pub loop-meeting-preserved : goal.loop-meeting-preserved
loop-meeting-preserved c =
    told_next (mine_line c.args.base c.args.blocks.now c.args.number c.args.label.now) c.args.met.now
    c.loop-meeting.meeting-index
    c.meeting-item.result c.loop-meeting.out.items c.push_mine.new.out.items
    (c.args.out.now.items ++ flat_map (mine_line c.args.base c.args.blocks.now c.args.number c.args.label.now)
    c.args.met.now)
    c.loop-meeting-test.true c.meeting-item.is c.loop-meeting.invariant c.in_ok-push_mine.ensures
