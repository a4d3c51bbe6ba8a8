use Rattle.c62_flight.specs.Issued.{issued_on}
use Rattle.c62_faulted.proofs.FirstLemmas.{tells_firsts}
use Rattle.c62_faulted_packets.specs.Done.{faults_done}
use Rattle.c62_faulted_packets.proofs.laws.tells_firsts.Goals as goal

pub returns-clause-packets : goal.returns-clause-packets
returns-clause-packets c = λ packets opening limit told finds. tells_firsts finds.faults told finds.first

pub returns-clause-flight : goal.returns-clause-flight
returns-clause-flight c = λ text first limit opening told finds.
    tells_firsts (faults_done finds.flies.did (issued_on text finds.flies.path)) told finds.first_each
