use Rattle.c62_sheet.proofs.Common.{arith, sym, ◌∙◌, inl, inr, cases_eq, false≢true}
use Rattle.c62_sheet.proofs.LeastSpots.{room_at, room_from}
use Rattle.c62_sheet.proofs.judge.first_room.Goals as goal

pub returns-then-fits : goal.returns-then-fits
returns-then-fits c = record {
  within = omega (arith, c.loop-cycle-test.true);
  passed = c.loop-cycle.invariant.1;
  behind = λ less. c.loop-cycle.invariant.0;
  room = λ row less.
      room_at c.args.rows.now c.from.result c.loop-cycle.cycle c.index-rows-from.result c.args.uses.now
      c.index-rows-from.is c.from.ensures
      (omega (arith, c.loop-cycle-test.true, c.requires)) (c.fits.ensures.0 c.if-fits.true) row;
}

pub loop-cycle-preserved : goal.loop-cycle-preserved
loop-cycle-preserved c = (
  omega (arith, c.loop-cycle.invariant.0),
  λ cycle row late low room. elim (cases_eq cycle c.loop-cycle.cycle) [
    | inr ne ↦ c.loop-cycle.invariant.1 cycle row late (omega (arith, low, ne)) room
    | inl e ↦
        false≢true
        (sym c.if-fits.false
        ∙ c.fits.ensures.1
        (room_from c.args.rows.now c.from.result c.loop-cycle.cycle c.index-rows-from.result c.args.uses.now
        c.index-rows-from.is c.from.ensures
        (omega (arith, c.loop-cycle-test.true, c.requires)) row (rw e at room)))
  ],
)

pub returns : goal.returns
returns c = record {
  within = omega arith;
  passed = λ cycle row late low room. c.loop-cycle.invariant.1 cycle row late
      (omega (arith, low, c.loop-cycle-test.false)) room;
  behind = λ less. absurd (omega (arith, less));
  room = λ row less. absurd (omega (arith, less));
}
