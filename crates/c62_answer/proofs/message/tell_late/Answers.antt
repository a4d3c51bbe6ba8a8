use Rattle.std.proofs.Common.{subst}
use Rattle.c62_answer.specs.Message.{told_of}
use Rattle.c62_answer.proofs.LateMessage.{late_pieces}
use Rattle.c62_answer.proofs.message.tell_late.Goals as goal

pub returns : goal.returns
returns g c =
    subst (told_of c.write_pieces.result (g.E.Write.contents c.args.errors.now)
    (g.E.Write.contents c.write_pieces.new.stream))
    (late_pieces c.args.cycles c.args.late)
    (rw (
      c.format.ensures.text,
      c.added_word.ensures,
      c.file_letter.ensures,
      c.format-2.ensures.text,
      c.format-3.ensures.text,
    ) at c.write_pieces.ensures)
