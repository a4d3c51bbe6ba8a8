use Rattle.c62_sheet.proofs.Common.{arith, insns_of, many_insns, IsAt, IsRowOf, Spots, None, issues, spot_at, subst}
use Rattle.c62_sheet.proofs.Common.{sym, ◌∙◌, ◌≡◌}
use Rattle.c62_sheet.proofs.RowsOf.{row_behind, row_left, row_kept, row_within, row_of, nothing_out}
use Rattle.c62_sheet.proofs.Used.{insn_at}
use Rattle.c62_sheet.proofs.rows.row_without.Goals as goal

pub returns-then-rows-from : goal.returns-then-rows-from
returns-then-rows-from c =
    row_behind (insns_of c.args.plan.now) c.args.spots.now c.args.q c.new.result c.args.cycle c.requires.lawful
    (omega (arith, many_insns, c.requires.lawful.sized))
    (omega (arith, c.requires.rows.sized)) c.new.ensures

pub remove-requires : goal.remove-requires
remove-requires c =
    let is : IsAt c.args.spots.now c.args.q c.in-Some.spot = rw (← c.from-3.ensures) c.in-Some.is in
    row_within (insns_of c.args.plan.now) c.args.spots.now c.args.q c.in-Some.spot c.insn.result c.args.rows.now
    c.requires.lawful
    c.requires.rows c.insn.ensures is c.index-rows-from.result c.of.result
    (row_of (insns_of c.args.plan.now) c.args.spots.now c.args.rows.now c.from-2.result c.in-Some.spot.cycle
    c.index-rows-from.result c.requires.rows c.index-rows-from.is
    (c.from-2.ensures ∙ sym c.if-spot-cycle.false) (omega arith)) c.of.ensures

pub returns-then-spot-cycle : goal.returns-then-spot-cycle
returns-then-spot-cycle c =
    let is : IsAt c.args.spots.now c.args.q c.in-Some.spot = rw (← c.from-3.ensures) c.in-Some.is in
    row_kept (insns_of c.args.plan.now) c.args.spots.now c.args.q c.in-Some.spot
    (insn_at (insns_of c.args.plan.now) c.args.q (omega (arith, many_insns))).0 c.args.rows.now
    c.requires.lawful
    c.requires.rows (insn_at (insns_of c.args.plan.now) c.args.q (omega (arith, many_insns))).1 is
    c.index-rows-from.result c.args.cycle c.if-spot-cycle.true
    (row_of (insns_of c.args.plan.now) c.args.spots.now c.args.rows.now c.from-2.result c.args.cycle
    c.index-rows-from.result c.requires.rows c.index-rows-from.is c.from-2.ensures (omega arith))

pub returns-else-spot-cycle : goal.returns-else-spot-cycle
returns-else-spot-cycle c =
    let is : IsAt c.args.spots.now c.args.q c.in-Some.spot = rw (← c.from-3.ensures) c.in-Some.is in
    rw (← c.if-spot-cycle.false)
    (row_left (insns_of c.args.plan.now) c.args.spots.now c.args.q c.in-Some.spot c.insn.result c.args.rows.now
    c.requires.lawful
    c.requires.rows c.insn.ensures is c.index-rows-from.result c.remove.new.self c.of.result
    (row_of (insns_of c.args.plan.now) c.args.spots.now c.args.rows.now c.from-2.result c.in-Some.spot.cycle
    c.index-rows-from.result c.requires.rows c.index-rows-from.is
    (c.from-2.ensures ∙ sym c.if-spot-cycle.false) (omega arith)) c.of.ensures c.remove.ensures)

pub returns-in-None : goal.returns-in-None
returns-in-None c =
    let block = insns_of c.args.plan.now in
    let set = c.args.spots.now in
    let none : spot_at set c.args.q ≡ None = rw (← c.from-3.ensures) c.in-None.is in
    subst (λ (spots : Spots). IsRowOf c.index-rows-from.result c.args.cycle (issues block spots))
    (sym (nothing_out set c.args.q none))
    (row_of block set c.args.rows.now c.from-2.result c.args.cycle c.index-rows-from.result c.requires.rows
    c.index-rows-from.is c.from-2.ensures (omega arith))
