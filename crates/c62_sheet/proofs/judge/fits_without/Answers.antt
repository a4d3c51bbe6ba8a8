use Rattle.c62_sheet.proofs.Common.{subst, FunctionalUnit, ◌+◌, ◌<◌}
use Rattle.c62_rules.specs.Resource.{taken_by}
use Rattle.c62_row.specs.Fields.{EachPlace, times_at}
use Rattle.c62_row.specs.Row.{row_at}
use Rattle.c62_sheet.proofs.Common.{arith, refl, sym, ◌∙◌, get_or, length-set, None, false≢true, all_units, many_insns}
use Rattle.c62_sheet.proofs.Common.{index_of-below, index_of-listed, same_index, index_of, insns_of, withdrawn}
use Rattle.c62_sheet.proofs.Common.{cases_eq, inl, inr, ◌≡◌}
use Rattle.c62_sheet.proofs.Search.{first_unit}
use Rattle.c62_sheet.proofs.Without.{free_without, fits_without_from, fits_from_without}
use Rattle.c62_sheet.proofs.RowsOf.{fits_from_row, row_from_fits}
use Rattle.c62_sheet.proofs.judge.fits_without.Goals as goal

pub returns-then-fits : goal.returns-then-fits
returns-then-fits c =
    let block = insns_of c.args.plan.now in
    let set = c.args.spots.now in
    let unit = get_or all_units c.loop-unit.unit-index first_unit in
    let w = c.if-fits.ensures.0 refl in
    let fits = fits_from_row block (withdrawn set c.args.q) c.args.i (record { cycle = c.args.cycle; unit = unit })
    c.insn-insn.result c.row_without-row.result
    (length-set set c.args.q None ∙ c.requires.lawful.sized) c.insn-insn.ensures
    (free_without block set c.args.q c.requires.lawful (omega (arith, many_insns)) c.args.i c.requires.ready.free)
    c.row_without-row.ensures
    (sym (c.units-units.ensures unit) ∙ w.stands) w.free in (
      λ _. fits_without_from _ _ _ _ _ c.requires.lawful (omega (arith, many_insns)) (omega (arith, many_insns))
          c.requires.ready unit c.requires.after fits,
      λ _. refl,
    )

pub loop-unit-preserved : goal.loop-unit-preserved
loop-unit-preserved c unit low fits =
    let block = insns_of c.args.plan.now in
    let set = c.args.spots.now in
    let k = c.loop-unit.unit-index in
    elim (cases_eq (index_of unit) k) [
      | inl e ↦
          (let here : unit ≡ get_or all_units k first_unit = same_index unit (get_or all_units k first_unit) (e
          ∙ sym (index_of-listed k first_unit c.loop-unit-test.true)) in
          let free = row_from_fits block (withdrawn set c.args.q) c.args.i
          (record { cycle = c.args.cycle; unit = unit }) c.insn-insn.result c.row_without-row.result
          (length-set set c.args.q None ∙ c.requires.lawful.sized) c.insn-insn.ensures
          (free_without block set c.args.q c.requires.lawful (omega (arith, many_insns)) c.args.i c.requires.ready.free)
          c.row_without-row.ensures fits in
          let room = λ (e : unit ≡ get_or all_units k first_unit)
          (f : EachPlace (λ place. row_at c.row_without-row.result place + times_at place
          (taken_by c.insn-insn.result unit) < 8)).
          subst (λ (u : FunctionalUnit). EachPlace
          (λ place. row_at c.row_without-row.result place + times_at place (taken_by c.insn-insn.result u) < 8))
          e f in
          false≢true (c.if-fits.ensures.1
          (record { stands = rw here at (c.units-units.ensures unit ∙ fits.stands); free = room here free })))
      | inr ne ↦ c.loop-unit.invariant unit (omega (arith, low, ne)) fits
    ]

pub returns : goal.returns
returns c = (
  λ e. absurd (false≢true e),
  λ w. absurd (c.loop-unit.invariant w.unit (omega (arith, index_of-below w.unit, c.loop-unit-test.false))
      (fits_from_without _ _ _ _ _ c.requires.lawful (omega (arith, many_insns)) (omega (arith, many_insns))
      c.requires.ready w)),
)
