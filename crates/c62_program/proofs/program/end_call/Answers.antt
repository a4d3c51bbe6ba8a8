use Rattle.c62_program.specs.Program.{Did}
use Rattle.c62_program.proofs.Failing.{ends_failed}
use Rattle.c62_program.proofs.program.end_call.Goals as goal

pub returns-in-Ok : goal.returns-in-Ok
returns-in-Ok g c = Did c.in-Ok.ensures.ok

pub returns-in-Err : goal.returns-in-Err
returns-in-Err g c =
    ends_failed c.args.isa _ _ c.args.call.now c.in-Err.trouble _ _ _ _ c.in-Err.ensures.why c.give_up.ensures.status
    c.in-Err.ensures.silent c.give_up.ensures.said c.in-Err.ensures.err c.in-Err.ensures.kept
