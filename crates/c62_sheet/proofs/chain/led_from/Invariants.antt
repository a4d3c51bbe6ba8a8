use Rattle.c62_depend.specs.Plan.{insns_of}
use Rattle.c62_sheet.specs.Chain.{Leads}
use Rattle.c62_sheet.proofs.Chains.{AreMarked}
use Rattle.c62_sheet.proofs.chain.led_from.Given as goal

abbrev pub invariant-loop-j : goal.invariant-loop-j
invariant-loop-j l = AreMarked (insns_of l.plan) (Leads (insns_of l.plan) l.i) 0 l.j l.marks
