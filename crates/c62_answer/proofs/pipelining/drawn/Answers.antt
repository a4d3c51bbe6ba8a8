use Rattle.c62_answer.proofs.pipelining.drawn.Goals as goal

pub returns : goal.returns
returns c = λ packing trips apart is. record {
  program = c.args.looped.now.program;
  written = c.args.looped.now.written;
  looped = is;
  drawn = c.in_ok-loop_drawing.ensures;
}
