use Rattle.c62_sheet.proofs.Common.{◌≡◌, length, take, insns_of, IsLawful, AreRows}
use Rattle.c62_sheet.proofs.Prefix.{IsUpTo}
use Rattle.c62_sheet.proofs.whole.are_lawful.Given as goal
use Rattle.c62_read.specs.declared.limits.TheConstants.{MOST_INSTRUCTIONS}

abbrev pub invariant-loop-i : goal.invariant-loop-i
invariant-loop-i l = record {
  sized : length l.set ≡ MOST_INSTRUCTIONS;
  upto : IsUpTo l.spots l.i (take l.count l.set);
  lawful : IsLawful (insns_of l.plan) (take l.count l.set);
  rows : AreRows (insns_of l.plan) (take l.count l.set) l.rows;
}
