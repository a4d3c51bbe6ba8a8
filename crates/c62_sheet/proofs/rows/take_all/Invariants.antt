use Rattle.c62_sheet.proofs.Common.{insns_of, AreRows}
use Rattle.c62_sheet.proofs.Fronts.{first_placed}
use Rattle.c62_sheet.proofs.rows.take_all.Given as goal

abbrev pub invariant-loop-i : goal.invariant-loop-i
invariant-loop-i l = AreRows (insns_of l.plan) (first_placed l.spots l.i) l.rows
