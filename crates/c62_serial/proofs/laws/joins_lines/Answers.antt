use Rattle.c62_serial.proofs.FaultLemmas.{joined_rises, joined_holds}
use Rattle.c62_serial.proofs.laws.joins_lines.Goals as goal

pub returns : goal.returns
returns c = λ lines line rises. record
    { rising = joined_rises line lines rises; holds = λ other. joined_holds lines line other }
