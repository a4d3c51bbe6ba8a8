use Rattle.c62_sheet.proofs.Common.{arith, ◌≡◌, length, None, suc, add-one, ◌∙◌, insns_of, many_insns, IsAt, spot_at}
use Rattle.c62_sheet.proofs.Common.{placed}
use Rattle.c62_sheet.proofs.RowsOf.{rows_placed}
use Rattle.c62_sheet.proofs.Fronts.{first_placed, length-first, first-none, first-all, first-free, first-more}
use Rattle.c62_sheet.proofs.Fronts.{first-same}
use Rattle.c62_sheet.proofs.rows.take_all.Goals.{in-Some, in_default}
use Rattle.c62_sheet.proofs.rows.take_all.Goals as goal

pub loop-i-init : goal.loop-i-init
loop-i-init c =
    let all : first_placed c.args.spots.now 0 ≡ _ = first-none c.args.spots.now in
    rw (all, c.requires.lawful.sized) c.requires.free

pub loop-i-preserved : goal.loop-i-preserved
loop-i-preserved c = elim c.match-spots-from.branch [
  | in-Some w ↦
      (let set = c.args.spots.now in
      let is : IsAt set c.loop-i.i w.in-Some.spot = rw (← c.from.ensures) w.in-Some.is in
      let more : placed (first_placed set c.loop-i.i) c.loop-i.i w.in-Some.spot ≡ first_placed set (suc c.loop-i.i) = rw
      is at (first-more set c.loop-i.i) in
      rw (w.rows-is, add-one c.loop-i.i, ← more)
      (rows_placed (insns_of c.args.plan.now) (first_placed set c.loop-i.i) c.loop-i.i w.in-Some.spot
      w.insn.result c.loop-i.rows
      w.from-in-Some.result _ w.add.new.self w.of.result (length-first set c.loop-i.i
      ∙ c.requires.lawful.sized) c.loop-i.invariant w.insn.ensures
      (first-free set c.loop-i.i) w.from-in-Some.ensures
      (omega (arith, c.loop-i.invariant.sized, c.requires.lawful.within c.loop-i.i w.in-Some.spot is)) w.of.ensures
      w.add.ensures))
  | in_default w ↦
      (let set = c.args.spots.now in
      let none : spot_at set c.loop-i.i ≡ None = rw (← c.from.ensures) w.in_default.is in
      rw (w.rows-is, add-one c.loop-i.i, first-same set c.loop-i.i none) c.loop-i.invariant)
]

pub returns : goal.returns
returns c =
    let done : c.loop-i.i ≡ length c.args.spots.now = omega (
      arith,
      many_insns,
      c.requires.lawful.sized,
      c.loop-i-test.false,
      c.loop-i.auto.i-end,
      c.len-i-end.ensures.len,
    ) in
    rw (done, first-all c.args.spots.now) at c.loop-i.invariant
