use Rattle.c62_sheet.proofs.Common.{arith, many_insns}
use Rattle.c62_sheet.proofs.Missing.{ready_is}
use Rattle.c62_sheet.proofs.judge.is_ready.Goals as goal

pub returns-then-is_none : goal.returns-then-is_none
returns-then-is_none c = ready_is _ _ _ _ _ c.requires.index (omega (arith, many_insns)) c.from-then-is_none.ensures
    c.requires.lawful (grind arith)
