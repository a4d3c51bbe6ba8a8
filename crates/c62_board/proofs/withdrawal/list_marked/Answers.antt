use Rattle.std.proofs.Common.{arith, ◌≡◌, ℕ, ◌-◌, suc, List, [], ◌∷◌, ◌++◌, sym, ap, ◌∙◌, append_assoc, length}
use Rattle.std.proofs.Common.{length-append}
use Rattle.std.proofs.lemmas.List.{append-nil}
use Rattle.c62_sheet.specs.declared.entry.Entry.{Entry}
use Rattle.c62_sheet.specs.declared.entry.Entry.TheVariants.{Withdraw}
use Rattle.c62_board.specs.Withdrawal.{withdrawals}
use Rattle.c62_board.proofs.Withdrawals.{withdrawals_one, withdrawals_skip, marked_one, marked_skip}
use Rattle.c62_board.proofs.withdrawal.list_marked.Goals as goal

pub loop-j-preserved-then-marks-j : goal.loop-j-preserved-then-marks-j
loop-j-preserved-then-marks-j c =
    let j = c.loop-j.j - 1 in
    let inv = c.loop-j.invariant in
    let at : c.loop-j.j ≡ suc j = omega (arith, c.loop-j-test.true) in
    let more : withdrawals c.args.marks.now c.args.who c.loop-j.j ≡ Withdraw j c.args.who ∷ withdrawals c.args.marks.now
    c.args.who j =
    withdrawals_one c.args.marks.now c.args.who j c.loop-j.j at c.if-marks-j.true in
    record {
      rest = rw c.push_reserved.ensures.items
          (append_assoc c.loop-j.entries.items (Withdraw j c.args.who ∷ []) (withdrawals c.args.marks.now c.args.who j)
          ∙ ap (λ (es : List Entry). c.loop-j.entries.items ++ es) (sym more) ∙ inv.rest);
      room = omega (
        arith,
        inv.room,
        marked_one c.args.marks.now j c.loop-j.j at c.if-marks-j.true,
        ap
            (length {A = Entry}) c.push_reserved.ensures.items,
        length-append c.loop-j.entries.items
            (Withdraw j c.args.who ∷ []),
        c.push_reserved.ensures.capacity,
      );
      low = omega (arith, inv.low);
    }

pub loop-j-preserved : goal.loop-j-preserved
loop-j-preserved c =
    let j = c.loop-j.j - 1 in
    let inv = c.loop-j.invariant in
    let at : c.loop-j.j ≡ suc j = omega (arith, c.loop-j-test.true) in
    let same : withdrawals c.args.marks.now c.args.who c.loop-j.j ≡ withdrawals c.args.marks.now c.args.who j =
    withdrawals_skip c.args.marks.now c.args.who j c.loop-j.j at c.if-marks-j.false in
    record {
      rest = ap (λ (es : List Entry). c.loop-j.entries.items ++ es) (sym same) ∙ inv.rest;
      room = omega (arith, inv.room, marked_skip c.args.marks.now j c.loop-j.j at);
      low = omega (arith, inv.low);
    }

pub returns-clause-entries : goal.returns-clause-entries
returns-clause-entries c =
    let none : c.loop-j.j ≡ 0 = omega (arith, c.loop-j-test.false) in
    sym (append-nil c.loop-j.entries.items)
    ∙ ap (λ (n : ℕ). c.loop-j.entries.items ++ withdrawals c.args.marks.now c.args.who n) (sym none)
    ∙ c.loop-j.invariant.rest
