use Rattle.c62_faulted.specs.Faulted.{faults_on}
use Rattle.c62_faulted.proofs.FirstLemmas.{tells_firsts}
use Rattle.c62_faulted.proofs.laws.tells_firsts.Goals as goal

pub returns : goal.returns
returns c = λ program opening limit told finds.
    (finds.standing, finds.whole, tells_firsts (faults_on program opening finds.standing.numbers) told finds.told)
