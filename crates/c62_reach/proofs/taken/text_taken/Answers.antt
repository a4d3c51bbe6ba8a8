use Rattle.std.proofs.Common.{◌∙◌}
use Rattle.c62_read.specs.Text.{lines_of}
use Rattle.c62_reach.specs.Ended.{ended_lines}
use Rattle.c62_reach.specs.Taken.{text_taken}
use Rattle.c62_reach.proofs.TakenLemmas.{taken_more, taken_whole}
use Rattle.c62_reach.proofs.taken.text_taken.Goals as goal

pub loop-line-preserved : goal.loop-line-preserved
loop-line-preserved c =
    taken_more c.loop-line.site.here c.at-site.result.here c.loop-line.site.below.now c.at-site.result.below.now
    c.loop-line.taken.items c.push_line.new.text.items
    c.in-Some.line.now c.next_line.result.0.now (ended_lines c.loop-line.rest.now) (ended_lines c.in-Some.after.now)
    (lines_of c.loop-line.other.now)
    (lines_of c.next_line.result.1.now) c.in_ok-push_line.ensures c.at-site.ensures.here c.at-site.ensures.below
    c.next_line.ensures.first
    c.next_line.ensures.behind c.in-Some.ensures.found ∙ c.loop-line.invariant

pub returns : goal.returns
returns c =
    taken_whole c.loop-line.site.here c.loop-line.site.below.now c.loop-line.taken.items c.loop-line.rest.now
    (text_taken c.args.marks.now (ended_lines c.args.text.now) (lines_of c.args.spelled.now))
    (lines_of c.loop-line.other.now) c.in_default.ensures.found
    c.loop-line.invariant
