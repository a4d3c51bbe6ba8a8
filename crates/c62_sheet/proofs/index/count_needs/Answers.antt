use Rattle.c62_sheet.proofs.Common.{arith, length, ap, ◌∙◌, insns_of, Link, ◌≡◌, nothing_placed, sym}
use Rattle.c62_depend.specs.Direct.{direct_needs}
use Rattle.c62_sheet.proofs.Sets.{nothing_at}
use Rattle.c62_sheet.proofs.Missing.{count_all, needs-few}
use Rattle.c62_sheet.proofs.index.count_needs.Goals as goal

pub overflow_cast-result : goal.overflow_cast-result
overflow_cast-result c =
    let few = needs-few (insns_of c.args.plan.now) c.args.j in
    let many : length c.needs.result.now ≡ length (direct_needs (insns_of c.args.plan.now) c.args.j) = ap
    (length {A = Link}) c.needs.ensures in
    omega (arith, few, many)

pub returns : goal.returns
returns c =
    ap (length {A = Link}) c.needs.ensures
    ∙ sym (count_all (nothing_placed (length (insns_of c.args.plan.now)))
    (direct_needs (insns_of c.args.plan.now) c.args.j)
    (nothing_at (length (insns_of c.args.plan.now))))
