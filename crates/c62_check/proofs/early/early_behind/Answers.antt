use Rattle.std.proofs.Common.{rules, arith, ◌<ℤ◌, w32, FitsSigned, to_z, of_z, refl, sym, ◌∙◌}
use Rattle.std.proofs.lemmas.Int.{to_z-of_z, ints}
use Rattle.c62_depend.specs.Plan.{insns_of}
use Rattle.c62_check.proofs.Needs.{read_at, early_one}
use Rattle.c62_check.proofs.early.early_behind.Goals as goal

pub returns : goal.returns
returns c =
    let needs_fits : FitsSigned w32 c.in-Some.needs = search rules in
    let has_fits : FitsSigned w32 c.gap-has.result = search rules in
    let early : to_z w32 (of_z w32 c.gap-has.result) <ℤ to_z w32 (of_z w32 c.in-Some.needs) = omega
    (arith, ints, c.if-needs-has.false) in (
      refl,
      early_one (insns_of c.args.plan.now) c.args.placed.now c.args.other c.args.number c.index-placed-from.result
          c.index-placed-from-2.result
          (to_z w32 (of_z w32 c.in-Some.needs)) (to_z w32 (of_z w32 c.gap-has.result)) c.in-Some.needs
          (read_at c.args.placed.now c.from.result c.args.other c.index-placed-from.result c.from.ensures
          (omega (arith, c.requires.before, c.requires.within, c.requires.placed, c.from.ensures))
          c.index-placed-from.is)
          (read_at c.args.placed.now c.from-2.result c.args.number c.index-placed-from-2.result c.from-2.ensures
          (omega (arith, c.requires.within, c.requires.placed, c.from-2.ensures)) c.index-placed-from-2.is)
          (sym c.in-Some.ensures.latency) (to_z-of_z w32 c.in-Some.needs needs_fits)
          (to_z-of_z w32 c.gap-has.result has_fits ∙ c.gap-has.ensures)
          c.reason_for.result early c.reason_for.ensures,
    )
