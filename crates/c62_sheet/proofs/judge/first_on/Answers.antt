use Rattle.c62_sheet.proofs.Common.{arith, sym, ◌∙◌, inl, inr, false≢true, insns_of, many_insns, any_row}
use Rattle.c62_sheet.proofs.LeastSpots.{none_on, first_lawful}
use Rattle.c62_sheet.proofs.judge.first_on.Goals.{then-end-first-via-then-end-first}
use Rattle.c62_sheet.proofs.judge.first_on.Goals.{then-end-first-via-else-end-first+then-not-has}
use Rattle.c62_sheet.proofs.judge.first_on.Goals as goal

pub returns-then-end-first : goal.returns-then-end-first
returns-then-end-first c =
    none_on (insns_of c.args.plan.now) c.args.spots.now c.args.i c.requires.lawful (omega (arith, many_insns))
    c.requires.ready c.args.first c.requires.early
    c.args.unit c.args.end
    (elim c.then-end-first.branch [
      | then-end-first-via-then-end-first w ↦ inl w.if-end-first.true
      | then-end-first-via-else-end-first+then-not-has w ↦ inr (λ stands. false≢true (w.if-not-has.ensures
          ∙ w.units.ensures c.args.unit ∙ stands))
    ])

pub returns : goal.returns
returns c =
    first_lawful (insns_of c.args.plan.now) c.args.spots.now c.args.i c.requires.lawful (omega (arith, many_insns))
    c.requires.ready c.args.first
    c.requires.early c.args.unit c.insn.result c.args.rows.now c.of.result any_row c.args.end c.first_room.result
    c.insn.ensures
    (sym (c.if-not-has.ensures ∙ c.units.ensures c.args.unit)) c.requires.rows c.of.ensures c.requires.within
    c.first_room.ensures
