use Rattle.c62_answer.proofs.Bounds.{are_bounded}
use Rattle.c62_answer.proofs.answer.show_by_workers.Goals as goal

pub returns : goal.returns
returns g c = record {
  program = c.in_ok-program.program;
  says = c.in_ok-program.ensures;
  shown = c.in_ok-shown.shown.items;
  packed = c.in_ok-shown.ensures;
  bounded = are_bounded c.args.showing c.in_ok-program.program c.in_ok-shown.shown.items c.in_ok-shown.ensures;
  drawn = rw c.deref.ensures.value at c.in_ok-picture_of.ensures;
}
