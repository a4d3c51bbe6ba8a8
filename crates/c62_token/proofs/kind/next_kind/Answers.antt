use Rattle.c62_token.proofs.Common.{arith}
use Rattle.c62_token.proofs.KindLemmas.{lone_is}
use Rattle.c62_token.proofs.kind.next_kind.Goals as goal

pub returns-in-Some : goal.returns-in-Some
returns-in-Some c =
    grind (arith, lone_is c.from_token-start.result.now c.in_ok-first.rest.now c.in_ok-first.first.now c.in-Some.mark)
