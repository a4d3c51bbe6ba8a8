use Rattle.std.proofs.Common.{rules}
use Rattle.c62_program.proofs.Traced.{read}
use Rattle.c62_program.proofs.tracing.answer_call.Goals as goal

pub returns-in-Some : goal.returns-in-Some
returns-in-Some g c =
    read c.args.isa _ _ _ _ _ c.in-Some.bytes.now _ _ _ _ _ _ _ _ (search rules) c.read_source-source.ensures
    c.end_on-in-Some.ensures
