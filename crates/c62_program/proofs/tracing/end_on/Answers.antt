use Rattle.c62_program.proofs.Traced.{ends}
use Rattle.c62_program.proofs.tracing.end_on.Goals as goal

pub returns-in-Ok : goal.returns-in-Ok
returns-in-Ok g c = ends c.args.isa _ _ _ c.in-Ok.made _ _ _ _ _ c.in-Ok.ensures c.end_call.ensures
