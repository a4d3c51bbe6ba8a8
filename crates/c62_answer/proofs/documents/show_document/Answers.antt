use Rattle.std.proofs.Common.{refl}
use Rattle.c62_answer.specs.Drawing.{drawing}
use Rattle.c62_answer.proofs.Bounds.{are_bounded}
use Rattle.c62_answer.proofs.documents.show_document.Goals as goal

pub returns : goal.returns
returns g c = let shown = c.in_ok-shown.shown.items in (
  drawing c.args.showing c.args.text.now shown,
  record {
    program = c.in_ok-program.program;
    says = c.in_ok-program.ensures;
    shown = shown;
    packed = c.in_ok-shown.ensures;
    bounded = are_bounded c.args.showing c.in_ok-program.program shown c.in_ok-shown.ensures;
    drawn = refl;
  },
  rw c.deref.ensures.value at c.in_ok-shown_document.ensures,
)
