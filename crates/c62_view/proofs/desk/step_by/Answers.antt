use Rattle.std.proofs.Common.{length, ap, sym, ◌∙◌, arith, subst, List}
use mathlib.Core.List.{IsPrefix}
use Rattle.c62_sheet.specs.declared.entry.Entry.{Entry}
use Rattle.c62_view.proofs.Prefixes.{prefix_whole}
use Rattle.c62_view.proofs.desk.step_by.Goals as goal

pub invariant_of-desk : goal.invariant_of-desk
invariant_of-desk g c =
    let begins : IsPrefix c.desk.inside.front.log c.take_turn-turn.new.board.journal =
    subst (λ (es : List Entry). IsPrefix es c.take_turn-turn.new.board.journal) (sym c.desk.invariant.noted)
    c.take_turn-turn.ensures.begins in
    let same = ap (λ (es : List Entry). length es) c.journal.ensures.journal in
    record {
      head_is = c.desk.invariant.head_is;
      noted = prefix_whole c.desk.inside.front.log c.take_turn-turn.new.board.journal begins
          (omega (arith, c.if-journal-len.false, c.len.ensures, same));
      followed = c.take_turn-turn.ensures.followed;
      named = ap (λ d. d.shown.value.past.book) c.take_turn-turn.ensures.desk ∙ c.desk.invariant.named;
    }
