use Rattle.c62_trace.specs.Written.{written_told}
use Rattle.c62_trace.proofs.lines.Lines.end.Goals as goal

pub returns : goal.returns
returns g c = λ opening text is.
    written_told opening c.args.self.whole c.send.new.self.whole (g.W.Write.contents c.args.self.stream)
    (g.W.Write.contents c.send.new.self.stream) c.args.self.unsent.items c.send.new.self.unsent.items text is
    c.send.ensures.told c.send.ensures.unsent
