use Rattle.c62_trace.proofs.Told.{are_told}
use Rattle.c62_trace.proofs.laws.events_are_told.Goals as goal

pub returns : goal.returns
returns c = λ placed opening did cycle. are_told placed opening did cycle
