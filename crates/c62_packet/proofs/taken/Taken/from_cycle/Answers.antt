use Rattle.std.proofs.Common.{arith}
use Rattle.c62_packet.proofs.TakenLemmas.{taken-earlier}
use Rattle.c62_packet.proofs.taken.Taken.from_cycle.Goals as goal

pub returns-clause-taken : goal.returns-clause-taken
returns-clause-taken c = λ rest. taken-earlier c.args.self.now _ rest (omega (arith, c.requires, c.if-cycle-self.false))
    c.new.ensures c.from_earlier.ensures
