use Rattle.std.proofs.Common.{ap, sym, ◌∙◌, subst}
use Rattle.std.proofs.lemmas.Bool.{false≢true}
use Rattle.c62_op.specs.Units.{index_of}
use Rattle.c62_depend.specs.Plan.{insns_of}
use Rattle.c62_sheet.specs.Victim.{IsFirstBefore}
use Rattle.c62_sheet.proofs.Victims.{first_skip, first_new, first_keep}
use Rattle.c62_sheet.proofs.victim.first_up_to.Goals as goal

pub returns-then-not-is_in_the_way : goal.returns-then-not-is_in_the_way
returns-then-not-is_in_the_way c =
    first_skip (insns_of c.args.sheet.now.plan) c.args.sheet.now.spots c.args.i c.args.cycle c.last_at-q.result
    c.args.unit c.last_at-q.ensures.stands c.args.first
    c.requires.first (λ way. false≢true (sym c.if-not-is_in_the_way.true ∙ c.is_in_the_way.ensures.1 way))

pub returns-then-makes_way_before : goal.returns-then-makes_way_before
returns-then-makes_way_before c =
    first_keep (insns_of c.args.sheet.now.plan) c.args.sheet.now.spots c.args.i c.args.cycle c.last_at-q.result
    c.args.unit c.last_at-q.ensures.stands c.in-Some.k
    (subst (IsFirstBefore (insns_of c.args.sheet.now.plan) c.args.sheet.now.spots c.args.i c.args.cycle
    (index_of c.args.unit)) c.in-Some.is c.requires.first)
    (rw (ap insns_of c.plan-plan.ensures.plan) at (c.makes_way_before.ensures.0 c.if-makes_way_before.true))

pub returns-in-None : goal.returns-in-None
returns-in-None c =
    first_new (insns_of c.args.sheet.now.plan) c.args.sheet.now.spots c.args.i c.args.cycle c.last_at-q.result
    c.args.unit c.last_at-q.ensures.stands
    (subst (IsFirstBefore (insns_of c.args.sheet.now.plan) c.args.sheet.now.spots c.args.i c.args.cycle
    (index_of c.args.unit)) c.in-None.is c.requires.first)
    (c.is_in_the_way.ensures.0 c.if-not-is_in_the_way.false)
