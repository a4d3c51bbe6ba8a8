use Rattle.std.proofs.Common.{length}
use Rattle.c62_depend.specs.Plan.{insns_of}
use Rattle.c62_sheet.specs.Chain.{Leads}
use Rattle.c62_sheet.proofs.Chains.{AreMarked}
use Rattle.c62_sheet.proofs.chain.leading_to.Given as goal

abbrev pub invariant-loop-k : goal.invariant-loop-k
invariant-loop-k l = AreMarked (insns_of l.plan) (λ k. Leads (insns_of l.plan) k l.i) l.k (length (insns_of l.plan))
    l.marks
