use Rattle.std.proofs.Common.{◌≡◌, ℕ, Some, List, map, refl, sym, subst}
use Rattle.c62_read.specs.Block.{Serial}
use Rattle.c62_packet.specs.declared.placed.Placed.{Placed}
use Rattle.c62_depend.specs.Plan.{insns_of}
use Rattle.c62_sheet.specs.declared.entry.Spot.{Spot}
use Rattle.c62_refute.specs.Window.{TakesAtLeast}
use Rattle.c62_pack.specs.Packets.{ArePlaced}
use Rattle.c62_show.specs.declared.shown.Shown.{Shown}
use Rattle.c62_show.specs.Limits.{AreLimits}
use Rattle.c62_why.specs.Why.{TellsWhys, critical_from}
use Rattle.c62_answer.proofs.Schedules.{shown_shortest, told_of}
use Rattle.c62_answer.proofs.schedule.shown_shortest.Goals as goal

pub limits_with-requires : goal.limits_with-requires
limits_with-requires c =
    let found = c.in_ok-found.found in
    subst (λ (plan : Serial). TakesAtLeast (insns_of plan) found.least) (sym c.plan-plan.ensures.plan)
    c.in_ok-found.ensures.least

pub returns : goal.returns
returns c =
    let board = c.args.board.now in
    let found = c.in_ok-found.found in
    let limits = c.in_ok-limits.limits in
    let placed = c.in_ok-placed.placed.items in
    let cycles = c.length-cycles.result in
    let why = c.args.showing.why in
    let shown : Shown = record {
      limits = Some limits;
      packets = found.schedule.packets;
      critical = c.in_ok-critical.critical;
      whys = c.in_ok-whys.whys;
      lives = c.in_ok-lives.lives;
    } in
    let is = c.plan-plan.ensures.plan in
    let own = map Some found.schedule.spots.items in
    shown_shortest c.args.showing board.plan board.spots shown found limits c.requires.asked c.in_ok-found.ensures refl
    refl
    (subst (λ (plan : Serial). AreLimits plan limits) is c.in_ok-limits.ensures.are)
    (told_of why board.plan own shown placed c.deref-2.result.now c.deref-3.result.now cycles
    (subst (λ (all : List Spot). ArePlaced board.plan (map Some all) placed) c.deref.ensures.value
    (subst (λ (plan : Serial). ArePlaced plan (map Some c.deref.result.now) placed) is c.in_ok-placed.ensures.placed))
    c.deref-2.ensures.value c.deref-3.ensures.value c.length-cycles.ensures.same
    (subst (λ (plan : Serial). TellsWhys why (insns_of plan) cycles c.deref-2.result.now c.in_ok-whys.whys.items) is
    c.in_ok-whys.ensures)
    (subst (λ (plan : Serial). c.in_ok-critical.critical.items ≡ critical_from (insns_of plan) cycles 0 c.deref-3.result.now)
    is c.in_ok-critical.ensures))
    c.in_ok-lives.ensures
