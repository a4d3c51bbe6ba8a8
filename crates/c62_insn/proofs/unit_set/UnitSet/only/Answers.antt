use Rattle.c62_insn.proofs.UnitsLemmas.{only_bit}
use Rattle.c62_insn.proofs.unit_set.UnitSet.only.Goals as goal

pub returns : goal.returns
returns c = λ other. only_bit c.args.self.0 c.flag.result.0 c.args.unit other c.flag.ensures
