use Rattle.c62_depend.proofs.Common.{◌≡◌, take, insns_in, unnumbered}
use Rattle.c62_depend.proofs.tables.all_uses.Given as goal

abbrev pub invariant-loop-entry : goal.invariant-loop-entry
invariant-loop-entry l = insns_in l.uses.items ≡ unnumbered (take l.entry-index l.insns)
