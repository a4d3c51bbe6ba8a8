use Rattle.std.proofs.Common.{rules, arith, ◌≡◌, ◌<◌, ◌∙◌, ℤ, w32, FitsSigned, to_z, of_z, length, sym, subst}
use Rattle.std.specs.Prelude.{◌≤ℤ◌, Some}
use Rattle.std.proofs.lemmas.Int.{to_z-of_z, ints}
use Rattle.c62_depend.specs.Plan.{insns_of}
use Rattle.c62_depend.specs.Latency.{latency}
use Rattle.c62_why.specs.Held.{gap_of}
use Rattle.c62_why.proofs.Holding.{read_at, held_one}
use Rattle.c62_why.proofs.held.held_behind.Goals as goal

pub returns : goal.returns
returns c =
    let block = insns_of c.args.plan.now in
    let needs_fits : FitsSigned w32 c.in_ok-needs.needs = search rules in
    let gap_fits : FitsSigned w32 c.gap.result = search rules in
    let needs_is : to_z w32 (of_z w32 c.in_ok-needs.needs) ≡ c.in_ok-needs.needs = to_z-of_z w32 c.in_ok-needs.needs
    needs_fits in
    let gap_is : to_z w32 (of_z w32 c.gap.result) ≡ c.gap.result = to_z-of_z w32 c.gap.result gap_fits in
    let late : c.gap.result ≤ℤ c.in_ok-needs.needs = omega (arith, ints, c.if-needs-gap.false, needs_is, gap_is) in
    held_one block c.args.placed.now c.args.i c.args.j c.index-placed-from.result c.index-placed-from-2.result
    (to_z w32 (of_z w32 c.in_ok-needs.needs)) c.in_ok-needs.needs
    c.reason_for.result needs_is
    (read_at c.args.placed.now c.from.result c.args.i c.index-placed-from.result c.from.ensures
    (omega (arith, c.requires.order, c.requires.within, c.requires.placed))
    c.index-placed-from.is)
    (read_at c.args.placed.now c.from-2.result c.args.j c.index-placed-from-2.result c.from-2.ensures
    (omega (arith, c.requires.within, c.requires.placed))
    c.index-placed-from-2.is)
    (sym c.in_ok-needs.ensures.latency) (subst (λ z. z ≤ℤ c.in_ok-needs.needs) c.gap.ensures late) c.reason_for.ensures
