use Rattle.c62_sheet.proofs.Common.{insns_of, arith, ◌≡◌, refl, sym, ◌∙◌, None, many_insns, Delay, spot_at, Missing}
use Rattle.c62_sheet.proofs.Missing.{lacks_at, lacks_none}
use Rattle.c62_sheet.proofs.Turns.{clear_three, clear_five, clear_more, clear_all, clear_open, refused_by}
use Rattle.c62_sheet.proofs.Turns.{refused_packet}
use Rattle.c62_sheet.proofs.RowsOf.{told_by}
use Rattle.c62_sheet.proofs.judge.check.Goals as goal

pub returns-then-missing-from-gt0 : goal.returns-then-missing-from-gt0
returns-then-missing-from-gt0 c =
    let clear = clear_three (insns_of c.args.plan.now) c.args.spots.now c.args.i c.args.spot (grind arith)
    (sym (c.if-not-has.ensures ∙ c.units.ensures c.args.spot.unit)) (omega (arith, many_insns)) in
    refused_by _ _ _ _ c.requires.lawful (omega (arith, many_insns)) Missing c.args.spot.cycle clear
    (lacks_at _ _ _ _ _ c.requires.index (omega (arith, many_insns)) c.from-2.ensures c.if-missing-from-gt0.true) refl

pub returns-then-cycle-first : goal.returns-then-cycle-first
returns-then-cycle-first c =
    let clear = clear_three (insns_of c.args.plan.now) c.args.spots.now c.args.i c.args.spot (grind arith)
    (sym (c.if-not-has.ensures ∙ c.units.ensures c.args.spot.unit)) (omega (arith, many_insns)) in
    let founded = lacks_none _ _ _ _ _ c.requires.index (omega (arith, many_insns)) c.from-2.ensures c.requires.lawful
    c.if-missing-from-gt0.false in
    refused_by _ _ _ _ c.requires.lawful (omega (arith, many_insns)) Delay c.args.first
    (clear_more Missing refl clear founded)
    (λ after. omega (arith, c.requires.early.least c.args.spot.cycle after, c.if-cycle-first.true)) c.requires.early

pub returns-in-Some : goal.returns-in-Some
returns-in-Some c =
    let free : spot_at c.args.spots.now c.args.i ≡ None = grind arith in
    let founded = lacks_none _ _ _ _ _ c.requires.index (omega (arith, many_insns)) c.from-2.ensures c.requires.lawful
    c.if-missing-from-gt0.false in
    let clear = clear_five _ _ _ c.args.spot _ free (sym (c.if-not-has.ensures ∙ c.units.ensures c.args.spot.unit))
    (omega (arith, many_insns)) founded c.requires.early c.if-cycle-first.false in
    let told = told_by (insns_of c.args.plan.now) c.args.spots.now c.args.i c.insn.result c.args.rows.now
    c.from-3.result c.index-rows-from.result c.index-rows-from.is c.requires.lawful c.requires.rows
    c.insn.ensures free c.args.spot c.of.result c.rule_against.result c.from-3.ensures (omega (arith, many_insns))
    c.of.ensures c.rule_against.ensures in
    refused_packet _ _ _ _ c.requires.lawful (omega (arith, many_insns)) c.in-Some.rule clear (rw c.in-Some.is at told)

pub returns-in-None : goal.returns-in-None
returns-in-None c =
    let free : spot_at c.args.spots.now c.args.i ≡ None = grind arith in
    let founded = lacks_none _ _ _ _ _ c.requires.index (omega (arith, many_insns)) c.from-2.ensures c.requires.lawful
    c.if-missing-from-gt0.false in
    let clear = clear_five _ _ _ c.args.spot _ free (sym (c.if-not-has.ensures ∙ c.units.ensures c.args.spot.unit))
    (omega (arith, many_insns)) founded c.requires.early c.if-cycle-first.false in
    let told = told_by (insns_of c.args.plan.now) c.args.spots.now c.args.i c.insn.result c.args.rows.now
    c.from-3.result c.index-rows-from.result c.index-rows-from.is c.requires.lawful c.requires.rows
    c.insn.ensures free c.args.spot c.of.result c.rule_against.result c.from-3.ensures (omega (arith, many_insns))
    c.of.ensures c.rule_against.ensures in
    clear_open _ _ _ _ c.requires.lawful (omega (arith, many_insns)) (clear_all clear (rw c.in-None.is at told))
