use Rattle.std.proofs.Common.{subst}
use Rattle.std.specs.Prelude.{IfOk}
use Rattle.c62_read.specs.Block.{Serial}
use Rattle.c62_meaning.specs.Laws.{AreSerial}
use Rattle.c62_pack.proofs.packets.packets_of.Goals as goal

pub returns-clause-serial : goal.returns-clause-serial
returns-clause-serial c =
    subst (λ (plan : Serial). IfOk c.arrange.result (λ block. AreSerial plan.insns block.placed)) c.plan.ensures.plan
    c.arrange.ensures.serial
