use Rattle.std.proofs.Common.{rules, ◌≤◌, ◌+◌, length, sym, subst, Vec, Global}
use Rattle.c62_depend.specs.Plan.{insns_of}
use Rattle.c62_check.specs.declared.early.Early.{Early}
use Rattle.c62_check.proofs.Rising.{AreEarlyBelow, early_next, none_next, all_below}
use Rattle.c62_check.proofs.early.all_early.Goals as goal
use Rattle.c62_check.proofs.early.all_early.Goals.{in-Some+in_ok-push, in_default}

pub loop-number-preserved : goal.loop-number-preserved
loop-number-preserved c =
    let at = c.loop-number in
    elim c.match-early_at.branch [
      | in-Some+in_ok-push w ↦ subst
          (λ (all : Vec Early Global). AreEarlyBelow (insns_of c.args.plan.now) c.args.placed.now (at.number + 1)
          all.items) (sym w.all-is)
          (early_next (insns_of c.args.plan.now) c.args.placed.now at.number at.all.items w.push.new.self.items
          w.in-Some.early at.invariant w.in-Some.ensures.0 w.in-Some.ensures.1
          w.in_ok-push.ensures.items)
      | in_default w ↦ subst
          (λ (all : Vec Early Global). AreEarlyBelow (insns_of c.args.plan.now) c.args.placed.now (at.number + 1)
          all.items) (sym w.all-is)
          (none_next (insns_of c.args.plan.now) c.args.placed.now at.number at.all.items at.invariant
          w.in_default.ensures)
    ]

pub returns : goal.returns
returns c =
    let end : length c.args.placed.now ≤ c.loop-number.number = search rules in
    all_below (insns_of c.args.plan.now) c.args.placed.now c.loop-number.number c.loop-number.all.items
    c.loop-number.invariant end
