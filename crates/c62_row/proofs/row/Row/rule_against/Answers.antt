use Rattle.std.proofs.Common.{arith, ◌+◌, ◌*◌, ◌≡◌, ◌∙◌, ap}
use Rattle.c62_rules.specs.Resource.{rule_at}
use Rattle.c62_row.proofs.Words.{no-carry, over-in, before-second, before-third}
use Rattle.c62_row.proofs.row.Row.rule_against.Goals as goal

pub sum-requires : goal.sum-requires
sum-requires c = no-carry 0 c.args.self.now c.args.uses.now (omega arith)

pub sum-requires-2 : goal.sum-requires-2
sum-requires-2 c = no-carry 1 c.args.self.now c.args.uses.now (omega arith)

pub sum-requires-3 : goal.sum-requires-3
sum-requires-3 c = no-carry 2 c.args.self.now c.args.uses.now (omega arith)

pub returns-in-Some : goal.returns-in-Some
returns-in-Some c = (
  16 * 0 + c.in-Some.place,
  over-in 0 c.args.self.now c.args.uses.now c.sum.result c.in-Some.place (omega arith) c.sum.ensures
      (λ other low. absurd (omega (arith, low))) c.in-Some.ensures,
  (let e : c.in-Some.place ≡ 16 * 0 + c.in-Some.place = omega arith in c.at.ensures ∙ ap rule_at e),
)

pub returns-in-Some-first_high : goal.returns-in-Some-first_high
returns-in-Some-first_high c = (
  16 + c.in-Some-first_high.place,
  over-in 1 c.args.self.now c.args.uses.now c.sum-2.result c.in-Some-first_high.place (omega arith) c.sum-2.ensures
      (before-second c.args.self.now c.args.uses.now c.sum.result c.sum.ensures c.in_default.ensures)
      c.in-Some-first_high.ensures,
  c.at-in-Some-first_high.ensures,
)

pub returns-in-Some-first_high-2 : goal.returns-in-Some-first_high-2
returns-in-Some-first_high-2 c = (
  32 + c.in-Some-first_high-2.place,
  over-in 2 c.args.self.now c.args.uses.now c.sum-3.result c.in-Some-first_high-2.place (omega arith) c.sum-3.ensures
      (before-third c.args.self.now c.args.uses.now c.sum.result c.sum-2.result c.sum.ensures c.sum-2.ensures
      c.in_default.ensures c.in_default-first_high.ensures)
      c.in-Some-first_high-2.ensures,
  c.at-in-Some-first_high-2.ensures,
)
