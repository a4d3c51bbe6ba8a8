use Rattle.std.proofs.Common.{◌≡◌, ℕ, List, Some, refl, sym, subst}
use Rattle.c62_read.specs.Block.{Serial}
use Rattle.c62_packet.specs.declared.placed.Placed.{Placed}
use Rattle.c62_depend.specs.Plan.{insns_of}
use Rattle.c62_show.specs.declared.shown.Shown.{Shown}
use Rattle.c62_show.specs.Limits.{ArePlainLimits}
use Rattle.c62_why.specs.Why.{TellsWhys, critical_from}
use Rattle.c62_answer.proofs.Schedules.{shown_plainly, told_of}
use Rattle.c62_answer.proofs.schedule.shown_own.Goals as goal

pub returns : goal.returns
returns c =
    let board = c.args.board.now in
    let limits = c.in_ok-limits.limits in
    let packets = c.in_ok-packets in
    let placed = c.in_ok-placed.placed.items in
    let cycles = c.length-cycles.result in
    let why = c.args.showing.why in
    let shown : Shown = record {
      limits = Some limits;
      packets = packets.packets;
      critical = c.in_ok-critical.critical;
      whys = c.in_ok-whys.whys;
      lives = c.in_ok-lives.lives;
    } in
    let is = c.plan-plan.ensures.plan in
    shown_plainly c.args.showing board.plan board.spots shown limits c.requires.plain packets.ensures.packets
    packets.ensures.serial packets.ensures.block refl
    (subst (λ (plan : Serial). ArePlainLimits plan limits) is c.in_ok-limits.ensures)
    (told_of why board.plan board.spots shown placed c.deref.result.now c.deref-2.result.now cycles
    c.in_ok-placed.ensures.placed c.deref.ensures.value c.deref-2.ensures.value c.length-cycles.ensures.same
    (subst (λ (plan : Serial). TellsWhys why (insns_of plan) cycles c.deref.result.now c.in_ok-whys.whys.items) is
    c.in_ok-whys.ensures)
    (subst (λ (plan : Serial). c.in_ok-critical.critical.items ≡ critical_from (insns_of plan) cycles 0 c.deref-2.result.now)
    is c.in_ok-critical.ensures))
    c.in_ok-lives.ensures
