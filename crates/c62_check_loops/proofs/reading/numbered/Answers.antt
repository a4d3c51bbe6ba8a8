use Rattle.std.proofs.Common.{sym}
use Rattle.c62_token.proofs.Registers.{numbered-known}
use Rattle.c62_check_loops.proofs.reading.numbered.Goals as goal

pub returns-then-number-lt16 : goal.returns-then-number-lt16
returns-then-number-lt16 c = sym (numbered-known _)
