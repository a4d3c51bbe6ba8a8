use Rattle.std.proofs.Common.{◌≡◌, ◌∙◌, map}
use Rattle.c62_trace.specs.Event.{Landed, entries}
use Rattle.c62_trace.specs.Line.{trace_lines}
use Rattle.c62_trace.specs.Written.{writes_kept, writes_pushed}
use Rattle.c62_trace.proofs.lines.LinesWatch.landings.Goals as goal

pub returns : goal.returns
returns g c = (
  c.send_full.ensures.view,
  writes_kept c.args.self.now.whole c.args.self.now.whole c.send_full.new.self.whole
      (g.W.Write.contents c.args.self.now.stream) (g.W.Write.contents c.args.self.now.stream)
      (g.W.Write.contents c.send_full.new.self.stream) c.args.self.now.unsent.items c.push_landings.new.out.items
      c.send_full.new.self.unsent.items (trace_lines c.args.self.now.view
      (entries c.args.cycle (map Landed c.args.writes.now)))
      (writes_pushed c.args.self.now.whole (g.W.Write.contents c.args.self.now.stream) c.args.self.now.unsent.items
      c.push_landings.new.out.items (trace_lines c.args.self.now.view
      (entries c.args.cycle (map Landed c.args.writes.now)))
      c.in_ok-push_landings.ensures)
      c.send_full.ensures.told,
)
