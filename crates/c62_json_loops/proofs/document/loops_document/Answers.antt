use Rattle.std.proofs.Common.{refl}
use Rattle.c62_json_loops.proofs.document.loops_document.Goals as goal

pub returns : goal.returns
returns c = record {
  judged = c.in_ok-judged.judged;
  are = c.in_ok-judged.ensures;
  says = rw c.blocks-2.ensures.same at c.in_ok-text.ensures;
  all = refl;
  bare = refl;
}
