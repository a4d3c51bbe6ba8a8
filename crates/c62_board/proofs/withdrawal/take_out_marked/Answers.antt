use Rattle.std.proofs.Common.{arith, ◌≡◌, ℕ, ◌++◌, List, length, sym, ap, ◌∙◌}
use Rattle.c62_read.specs.Block.{Serial}
use Rattle.c62_depend.specs.Plan.{insns_of}
use Rattle.c62_depend.proofs.Plans.{many_insns}
use Rattle.c62_sheet.specs.declared.entry.Entry.{Entry}
use Rattle.c62_board.specs.Withdrawal.{withdrawals}
use Rattle.c62_board.proofs.TakingOut.{one_below}
use Rattle.c62_board.proofs.Withdrawals.{withdraws_marked}
use Rattle.c62_board.proofs.withdrawal.take_out_marked.Goals as goal

pub returns : goal.returns
returns c =
    let block = insns_of c.args.sheet.now.plan in
    let left = c.leave_out.ensures.left c.args.who in
    let all : c.len.result ≡ length block = c.len.ensures.len
    ∙ ap (λ (plan : Serial). length plan.insns) c.plan.ensures.plan
    ∙ sym (many_insns c.args.sheet.now.plan.insns) in
    let same : left.entries ≡ withdrawals c.args.marks.now c.args.who (length block) =
    one_below block c.args.sheet.now.spots c.args.i c.args.who (length block) left.entries
    (withdrawals c.args.marks.now c.args.who (length block))
    left.withdraws (withdraws_marked block c.args.sheet.now.spots c.args.i c.args.who (length block) c.args.marks.now
    (omega arith) c.requires.marked) in
    record {
      entries = left.entries;
      withdraws = left.withdraws;
      legal = left.legal;
      plan = c.leave_out.ensures.plan;
      spots = left.spots;
      journal_is = c.write_marked.ensures.entries
          ∙ ap (λ (n : ℕ). c.args.journal.now.items ++ withdrawals c.args.marks.now c.args.who n) all
          ∙ ap (λ (es : List Entry). c.args.journal.now.items ++ es) (sym same);
      room = c.write_marked.ensures.room;
    }
