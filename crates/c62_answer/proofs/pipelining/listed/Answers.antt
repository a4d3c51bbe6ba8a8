use Rattle.std.proofs.Common.{refl}
use Rattle.c62_answer.proofs.pipelining.listed.Goals as goal

pub returns : goal.returns
returns c = λ packing trips apart text is. record {
  program = c.args.looped.program;
  written = c.args.looped.written;
  looped = is;
  lines = c.in_ok-told.ensures;
  listed = refl;
}
