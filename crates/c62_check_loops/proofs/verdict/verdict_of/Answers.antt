use Rattle.std.proofs.Common.{◌≡◌, true, Option, sym, ap, length, ◌∙◌}
use Rattle.std.specs.Prelude.{is_some}
use Rattle.c62_rows.specs.Rows.{text_of}
use Rattle.c62_check_loop.specs.declared.verdict.LoopVerdict.{LoopVerdict}
use Rattle.c62_check_loops.specs.Covered.{is_told}
use Rattle.c62_check_loops.proofs.Loops.{loop_told}
use Rattle.c62_check_loops.proofs.verdict.verdict_of.Goals as goal

pub returns-in-Some : goal.returns-in-Some
returns-in-Some c =
    let loops = c.args.loops.now in
    let is : is_told loops.verdicts.items c.args.number ≡ true
    = ap (λ (o : Option LoopVerdict). is_some o) (sym c.loop_at.ensures ∙ c.in-Some.is) in (
      is,
      loop_told loops.promise c.args.blocks.now (text_of c.args.read.now.rows) (length c.args.blocks.now)
          loops.verdicts.items c.args.number c.in-Some.verdict c.requires.loops c.requires.within
          (sym c.in-Some.is ∙ c.loop_at.ensures),
    )
