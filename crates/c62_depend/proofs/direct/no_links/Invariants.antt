use Rattle.c62_depend.proofs.Common.{[], AreLists}
use Rattle.c62_depend.proofs.direct.no_links.Given as goal

abbrev pub invariant-loop : goal.invariant-loop
invariant-loop l = AreLists (λ i. []) l.counter l.all.items
