use Rattle.c62_sheet.proofs.Common.{◌≡◌, insns_of, set_length}
use Rattle.c62_sheet.proofs.Tallies.{length_from}
use Rattle.c62_sheet.proofs.counts.length.Given as goal

abbrev pub invariant-loop-k : goal.invariant-loop-k
invariant-loop-k l = length_from (insns_of l.plan) l.spots l.k l.end ≡ set_length (insns_of l.plan) l.spots
