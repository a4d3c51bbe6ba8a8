use Rattle.c62_line.proofs.Common.{sym}
use Rattle.c62_line.proofs.SaysLemmas.{made_says}
use Rattle.c62_line.proofs.line.does.Goals as goal

pub returns-in-Ok-clause-says : goal.returns-in-Ok-clause-says
returns-in-Ok-clause-says c =
    sym (made_says c.args.isa c.in-Ok.insn c.args.read.0 c.args.read.1 c.args.cond c.args.written c.in-Ok.ensures.fault
    c.in-Ok.ensures.parts)
