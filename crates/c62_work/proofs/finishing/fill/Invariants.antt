use Rattle.std.proofs.Common.{◌≡◌, List, length}
use Rattle.c62_depend.specs.Plan.{insns_of, IsPlan}
use Rattle.c62_sheet.specs.declared.entry.Entry.{Entry}
use Rattle.c62_board.specs.State.{Adds}
use Rattle.c62_work.proofs.Filling.{IsFilling}
use Rattle.c62_work.proofs.finishing.fill.Given as goal

abbrev pub invariant-loop-i : goal.invariant-loop-i
invariant-loop-i l = record {
  entries : List Entry;
  filling : IsFilling (insns_of l.fn.board.plan) l.fn.board.spots l.i l.board.spots entries;
  adds : Adds l.fn.board entries l.board;
  known : IsPlan (insns_of l.fn.board.plan);
  all : l.i-end ≡ length l.fn.board.plan.insns;
}
