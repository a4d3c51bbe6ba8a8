use Rattle.std.proofs.Common.{◌≡◌, ◌++◌, drop}
use Rattle.std.specs.List.{flat_map}
use Rattle.c62_apart.specs.Sentence.{mine_line}
use Rattle.c62_apart.proofs.sentence.push_meetings.Given as goal

abbrev pub invariant-loop-meeting : goal.invariant-loop-meeting
invariant-loop-meeting l =
    l.out.items ++ flat_map (mine_line l.base l.blocks l.number l.label) (drop l.meeting-index l.met)
    ≡ l.fn.out.items ++ flat_map (mine_line l.base l.blocks l.number l.label) l.met
