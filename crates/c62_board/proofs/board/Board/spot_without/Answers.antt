use Rattle.std.proofs.Common.{◌≡◌, length, ap, ◌∙◌}
use Rattle.c62_read.specs.Block.{Serial}
use Rattle.c62_depend.specs.Plan.{insns_of}
use Rattle.c62_sheet.specs.Least.{IsPick}
use Rattle.c62_board.specs.Ejection.{IsEjected}
use Rattle.c62_board.specs.View.{state_of}
use Rattle.c62_board.specs.Who.{who_of}
use Rattle.c62_board.proofs.Ejections.{copy_lawful, copy_ready, copy_spot, copy_ejection}
use Rattle.c62_board.proofs.board.Board.spot_without.Goals as goal

pub least_in-requires-clause-lawful : goal.least_in-requires-clause-lawful
least_in-requires-clause-lawful c =
    let b = state_of c.self.inside in
    let pick : IsPick (insns_of b.plan) b.spots c.args.side c.args.i = rw (← c.self.view_is) at c.requires.pick in
    let ejected : IsEjected (insns_of b.plan) b.spots b.budget c.args.i c.args.q = rw (← c.self.view_is) at
    c.requires.ejected in
    let count : c.from-count.result ≡ length b.plan.insns = c.from-count.ensures ∙ c.len.ensures.len
    ∙ ap (λ (plan : Serial). length plan.insns) c.plan-plan.ensures.plan in
    copy_lawful b c.plan-plan.result.now c.copy_left.new.rest c.from-count.result c.args.side c.args.i c.args.q
    c.self.invariant pick ejected c.plan-plan.ensures.plan count
    (c.copy_left.ensures (who_of c.args.side))

pub least_in-requires-clause-ready : goal.least_in-requires-clause-ready
least_in-requires-clause-ready c =
    let b = state_of c.self.inside in
    let pick : IsPick (insns_of b.plan) b.spots c.args.side c.args.i = rw (← c.self.view_is) at c.requires.pick in
    let ejected : IsEjected (insns_of b.plan) b.spots b.budget c.args.i c.args.q = rw (← c.self.view_is) at
    c.requires.ejected in
    let count : c.from-count.result ≡ length b.plan.insns = c.from-count.ensures ∙ c.len.ensures.len
    ∙ ap (λ (plan : Serial). length plan.insns) c.plan-plan.ensures.plan in
    copy_ready b c.plan-plan.result.now c.copy_left.new.rest c.from-count.result c.args.side c.args.i c.args.q
    c.self.invariant pick ejected c.plan-plan.ensures.plan count
    (c.copy_left.ensures (who_of c.args.side))

pub unreachable-requires : goal.unreachable-requires
unreachable-requires c =
    let b = state_of c.self.inside in
    let pick : IsPick (insns_of b.plan) b.spots c.args.side c.args.i = rw (← c.self.view_is) at c.requires.pick in
    let ejected : IsEjected (insns_of b.plan) b.spots b.budget c.args.i c.args.q = rw (← c.self.view_is) at
    c.requires.ejected in
    let count : c.from-count.result ≡ length b.plan.insns = c.from-count.ensures ∙ c.len.ensures.len
    ∙ ap (λ (plan : Serial). length plan.insns) c.plan-plan.ensures.plan in
    copy_spot b c.plan-plan.result.now c.copy_left.new.rest c.from-count.result c.args.side c.args.i c.args.q
    c.self.invariant pick ejected c.plan-plan.ensures.plan count
    (c.copy_left.ensures (who_of c.args.side)) c.in_default.ensures

pub returns : goal.returns
returns c =
    let b = state_of c.self.inside in
    let pick : IsPick (insns_of b.plan) b.spots c.args.side c.args.i = rw (← c.self.view_is) at c.requires.pick in
    let ejected : IsEjected (insns_of b.plan) b.spots b.budget c.args.i c.args.q = rw (← c.self.view_is) at
    c.requires.ejected in
    let count : c.from-count.result ≡ length b.plan.insns = c.from-count.ensures ∙ c.len.ensures.len
    ∙ ap (λ (plan : Serial). length plan.insns) c.plan-plan.ensures.plan in
    rw (← c.self.view_is)
    (copy_ejection b c.plan-plan.result.now c.copy_left.new.rest c.from-count.result c.args.side c.args.i c.args.q
    c.self.invariant pick ejected c.plan-plan.ensures.plan count
    (c.copy_left.ensures (who_of c.args.side)) c.in-Some.spot c.in-Some.ensures)
