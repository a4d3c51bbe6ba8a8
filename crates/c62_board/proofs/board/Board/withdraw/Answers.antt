use Rattle.std.proofs.Common.{arith, ◌≡◌, ◌<◌, length, ap, ◌∙◌, sym, IsSome}
use Rattle.c62_read.specs.Block.{Serial}
use Rattle.c62_depend.specs.Plan.{insns_of}
use Rattle.c62_depend.proofs.Plans.{many_insns}
use Rattle.c62_sheet.specs.Lawful.{spot_at}
use Rattle.c62_sheet.specs.Chain.{Marks}
use Rattle.c62_board.specs.Withdrawal.{GoesWith, marked_below}
use Rattle.c62_board.specs.State.{BoardState}
use Rattle.c62_board.proofs.Ejections.{gains_withdrawal, no_room_to_withdraw}
use Rattle.c62_sheet.proofs.Optional.{not_none}
use Rattle.c62_board.proofs.board.Board.withdraw.Goals as goal

pub returns-in_default-clause-fault : goal.returns-in_default-clause-fault
returns-in_default-clause-fault c =
    let marked : Marks (insns_of c.args.self.now.plan)
    (GoesWith (insns_of c.args.self.now.plan) c.args.self.now.spots c.args.i) c.going_with-marks.result =
    rw (← c.self.view_is) c.going_with-marks.ensures in
    let all : c.len.result ≡ length (insns_of c.args.self.now.plan) =
    c.len.ensures.len ∙ ap (λ (plan : Serial). length plan.insns) (c.plan.ensures.plan
    ∙ ap (λ (b : BoardState). b.plan) c.self.view_is)
    ∙ sym (many_insns c.args.self.now.plan.insns) in
    let full : c.args.self.now.room < marked_below c.going_with-marks.result (length (insns_of c.args.self.now.plan)) =
    omega (
      arith,
      c.in_default.ensures.full,
      c.count_marked-count.ensures,
      ap (marked_below c.going_with-marks.result)
          all,
    ) in
    let taken : IsSome (spot_at c.args.self.now.spots c.args.i) =
    not_none (spot_at c.args.self.now.spots c.args.i)
    (grind (arith, c.spot_of.ensures, c.is_none.ensures, c.if-is_none.false)) in (
      taken,
      λ entries withdraws. no_room_to_withdraw c.args.self.now c.args.i c.args.who c.going_with-marks.result
          entries marked full withdraws,
    )

pub returns-clause-withdrawn : goal.returns-clause-withdrawn
returns-clause-withdrawn c =
    let same : c.len.result ≡ length c.make_room.new.self.plan.insns =
    c.len.ensures.len
    ∙ ap (λ (plan : Serial). length plan.insns)
    (c.plan.ensures.plan ∙ ap (λ (b : BoardState). b.plan) c.self.view_is
    ∙ sym (ap (λ (b : BoardState). b.plan) c.in-Ok.ensures.room.same)) in
    gains_withdrawal c.args.self.now c.make_room.new.self c.withdraw_marked.new.self _ c.args.i _
    c.count_marked-count.result c.args.who (c.count_marked-count.ensures
    ∙ ap (marked_below c.going_with-marks.result) same) c.in-Ok.ensures.room
    c.withdraw_marked.ensures.withdrawn
