use Rattle.std.proofs.Common.{◌≡◌, ◌≤◌, List, length}
use Rattle.c62_depend.specs.Plan.{insns_of}
use Rattle.c62_sheet.specs.declared.entry.Entry.{Entry}
use Rattle.c62_sheet.specs.declared.entry.Who.{Who}
use Rattle.c62_board.proofs.TakingOut.{IsTakingOut}
use Rattle.c62_board.proofs.withdrawal.leave_out.Given as goal

abbrev pub invariant-loop-j : goal.invariant-loop-j
invariant-loop-j l = record {
  plan : l.sheet.plan ≡ l.fn.sheet.plan;
  out : (who : Who) → (es : List Entry)
      × IsTakingOut (insns_of l.fn.sheet.plan) l.fn.sheet.spots l.i who l.j l.sheet.spots es;
  low : l.j ≤ length l.fn.sheet.plan.insns;
}
