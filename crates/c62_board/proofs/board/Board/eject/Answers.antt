use Rattle.std.proofs.Common.{arith, ◌≡◌, ◌<◌, ◌+◌, length, ap, ◌∙◌, sym}
use Rattle.c62_read.specs.Block.{Serial}
use Rattle.c62_depend.specs.Plan.{insns_of}
use Rattle.c62_depend.proofs.Plans.{many_insns}
use Rattle.c62_sheet.specs.Chain.{Marks}
use Rattle.c62_board.specs.Withdrawal.{GoesWith, marked_below}
use Rattle.c62_board.specs.State.{BoardState, IsSound}
use Rattle.c62_board.proofs.Withdrawals.{marked_below-le}
use Rattle.c62_board.proofs.Ejections.{eject_ready, eject_spot, eject_turn, no_room_to_eject}
use Rattle.c62_board.proofs.board.Board.eject.Goals as goal

pub overflow_add-count : goal.overflow_add-count
overflow_add-count c =
    let few = c.len.ensures.sound.few in
    omega (
      arith,
      c.count_marked-count.ensures,
      marked_below-le c.going_with-marks.result c.len.result,
      few,
      many_insns
          c.plan.result.now.insns,
      c.len.ensures.len,
    )

pub returns-in_default : goal.returns-in_default
returns-in_default c =
    let marked : Marks (insns_of c.args.self.now.plan)
    (GoesWith (insns_of c.args.self.now.plan) c.args.self.now.spots c.args.q) c.going_with-marks.result =
    rw (← c.self.view_is) c.going_with-marks.ensures in
    let all : c.len.result ≡ length (insns_of c.args.self.now.plan) =
    c.len.ensures.len ∙ ap (λ (plan : Serial). length plan.insns) (c.plan.ensures.plan
    ∙ ap (λ (b : BoardState). b.plan) c.self.view_is)
    ∙ sym (many_insns c.args.self.now.plan.insns) in
    let full : c.args.self.now.room < marked_below c.going_with-marks.result (length (insns_of c.args.self.now.plan)) +
    1 =
    omega (
      arith,
      c.in_default.ensures.full,
      c.count_marked-count.ensures,
      ap (marked_below c.going_with-marks.result)
          all,
    ) in (
      no_room_to_eject c.args.self.now c.args.side c.args.i c.args.q c.going_with-marks.result c.requires.pick
          c.requires.ejected marked full,
      c.in_default.ensures.err,
    )

sound_is : (c : goal.After-withdraw_marked) → IsSound c.args.self.now
sound_is c = rw (← c.self.view_is) c.self.invariant

pub least-requires-clause-ready : goal.least-requires-clause-ready
least-requires-clause-ready c =
    (eject_ready c.args.self.now c.make_room.new.self c.withdraw_marked.new.self c.args.side c.args.i c.args.q _ _
    c.who_of.result (sound_is c) c.withdraw_marked.ensures.sound
    c.requires.pick c.requires.ejected c.in-Ok.ensures.room c.withdraw_marked.ensures.withdrawn).ready

pub unreachable-requires : goal.unreachable-requires
unreachable-requires c =
    eject_spot c.args.self.now c.make_room.new.self c.withdraw_marked.new.self c.args.side c.args.i c.args.q _ _
    c.who_of.result (rw (← c.self.view_is) c.self.invariant) c.withdraw_marked.ensures.sound
    c.requires.pick c.requires.ejected c.in-Ok.ensures.room c.withdraw_marked.ensures.withdrawn
    c.in_default-least.ensures

pub put-requires-clause-ready : goal.put-requires-clause-ready
put-requires-clause-ready c =
    eject_ready c.args.self.now c.make_room.new.self c.withdraw_marked.new.self c.args.side c.args.i c.args.q _ _
    c.who_of.result (rw (← c.self.view_is) c.self.invariant) c.withdraw_marked.ensures.sound
    c.requires.pick c.requires.ejected c.in-Ok.ensures.room c.withdraw_marked.ensures.withdrawn

pub returns : goal.returns
returns c =
    eject_turn c.args.self.now c.make_room.new.self c.withdraw_marked.new.self c.args.side c.args.i c.args.q _ _
    c.who_of.result (rw (← c.self.view_is) c.self.invariant) c.withdraw_marked.ensures.sound
    c.requires.pick c.requires.ejected c.in-Ok.ensures.room c.withdraw_marked.ensures.withdrawn
    c.in-Some.spot c.who_of-2.result _ c.who_of.ensures.who c.who_of-2.ensures.who c.in-Some.ensures
    (rw c.self-2.view_is c.put.ensures)
