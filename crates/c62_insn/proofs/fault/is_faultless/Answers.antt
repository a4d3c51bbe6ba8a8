use Rattle.std.proofs.Common.{rules}
use Rattle.std.proofs.lemmas.Bool.{both_ways}
use Rattle.c62_insn.proofs.TakenLemmas.{faultless_of, unnot}
use Rattle.c62_insn.proofs.fault.is_faultless.Goals as goal

pub is_bad_condition-requires : goal.is_bad_condition-requires
is_bad_condition-requires c = search rules

pub has_no_unit-requires : goal.has_no_unit-requires
has_no_unit-requires c = search rules

pub returns-then-not-is_bad_condition : goal.returns-then-not-is_bad_condition
returns-then-not-is_bad_condition c = λ some.
    faultless_of c.args.set c.args.op c.args.operands c.args.cond c.args.unit c.is_bad_condition.result
    c.has_no_unit.result
    c.is_bad_condition.ensures
    c.has_no_unit.ensures c.if-not-is_bad_condition.true some

pub returns-else-not-is_bad_condition : goal.returns-else-not-is_bad_condition
returns-else-not-is_bad_condition c = λ good. absurd
    (both_ways c.is_bad_condition.result (unnot c.is_bad_condition.result good) c.if-not-is_bad_condition.false)
