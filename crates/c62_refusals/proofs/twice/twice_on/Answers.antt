use Rattle.std.proofs.Common.{rules}
use Rattle.c62_refusals.specs.Twice.{AtOnce, Afterwards, Never, OtherAtOnce, OtherAfterwards}
use Rattle.c62_refusals.proofs.twice.twice_on.Goals as goal

pub returns-in-Some : goal.returns-in-Some
returns-in-Some g c = AtOnce c.in-Some.answer (search rules)

pub returns-then-looked-before : goal.returns-then-looked-before
returns-then-looked-before g c = OtherAtOnce (search rules) (search rules)

pub returns-in-Some-called : goal.returns-in-Some-called
returns-in-Some-called g c = Afterwards c.in-Some-called.answer c.called.new.value (search rules) (search rules)

pub returns-then-looked-before-2 : goal.returns-then-looked-before-2
returns-then-looked-before-2 g c = Never (search rules) (search rules)

pub returns-else-looked-before-2 : goal.returns-else-looked-before-2
returns-else-looked-before-2 g c = OtherAfterwards (search rules) (search rules)
