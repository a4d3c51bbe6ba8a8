use Rattle.std.proofs.Common.{arith, ◌≡◌, ◌<◌, ◌≤◌, ◌+◌, ◌++◌, ◌∷◌, [], List, length, ap, ◌∙◌, sym, subst, inl, inr}
use Rattle.std.proofs.Common.{Result, Err, IsOk}
use Rattle.std.proofs.lemmas.Bool.{cases_lt, false≢true}
use Rattle.c62_read.specs.Block.{Serial}
use Rattle.c62_depend.specs.Plan.{insns_of}
use Rattle.c62_depend.proofs.Plans.{many_insns}
use Rattle.c62_sheet.specs.declared.entry.Entry.{Entry}
use Rattle.c62_sheet.specs.Chain.{Marks}
use Rattle.c62_board.specs.Withdrawal.{GoesWith, marked_below, withdrawals}
use Rattle.c62_board.specs.State.{BoardState}
use Rattle.c62_board.proofs.Ejections.{no_room_to_eject, listed_ejection, on_err}
use Rattle.c62_board.proofs.board.Board.ejection_ahead.Goals as goal

pub returns-in_err-reserve-clause-many : goal.returns-in_err-reserve-clause-many
returns-in_err-reserve-clause-many c =
    let marked : Marks (insns_of c.args.self.now.plan)
    (GoesWith (insns_of c.args.self.now.plan) c.args.self.now.spots c.args.q) c.going_with-marks.result =
    rw (← c.self.view_is) c.going_with-marks.ensures in
    let all : c.len-n.result ≡ length (insns_of c.args.self.now.plan) =
    c.len-n.ensures.len ∙ ap (λ (plan : Serial). length plan.insns) (c.plan.ensures.plan
    ∙ ap (λ (b : BoardState). b.plan) c.self.view_is)
    ∙ sym (many_insns c.args.self.now.plan.insns) in
    let full : 4 < marked_below c.going_with-marks.result (length (insns_of c.args.self.now.plan)) + 1 = elim
    (cases_lt 4 (c.from.result + 1)) [
      | inl lt ↦ omega (
        arith,
        lt,
        c.from.ensures,
        c.count_marked-count.ensures,
        ap
            (marked_below c.going_with-marks.result) all,
      )
      | inr le ↦ absurd (false≢true
          (subst IsOk c.in_err-reserve.was
          (c.reserve.ensures.succeeds
          (omega (
            arith,
            le,
            ap (length {A = Entry}) c.new-entries.ensures.items,
            c.new-entries.ensures.capacity,
          )))))
    ] in
    on_err _ _ (no_room_to_eject (record c.args.self.now { room = 4 }) c.args.side c.args.i c.args.q
    c.going_with-marks.result c.requires.pick c.requires.ejected marked full)

pub returns-clause-ahead : goal.returns-clause-ahead
returns-clause-ahead c =
    let marked : Marks (insns_of c.args.self.now.plan)
    (GoesWith (insns_of c.args.self.now.plan) c.args.self.now.spots c.args.q) c.going_with-marks.result =
    rw (← c.self.view_is) c.going_with-marks.ensures in
    let all : c.len-n.result ≡ length (insns_of c.args.self.now.plan) =
    c.len-n.ensures.len ∙ ap (λ (plan : Serial). length plan.insns) (c.plan.ensures.plan
    ∙ ap (λ (b : BoardState). b.plan) c.self.view_is)
    ∙ sym (many_insns c.args.self.now.plan.insns) in
    let none : c.reserve.new.self.items ≡ [] = c.reserve.ensures.items ∙ c.new-entries.ensures.items in
    listed_ejection c.args.self.now c.args.side c.args.i c.args.q c.spot_without-spot.result c.going_with-marks.result
    c.len-n.result c.who_of-2.result c.who_of.result
    c.spot_without-spot.ensures.0 c.list_marked.new.entries.items c.push_reserved.new.self.items marked all
    c.who_of-2.ensures.who c.who_of.ensures.who c.spot_without-spot.ensures.1
    (c.list_marked.ensures.entries
    ∙ ap (λ (es : List Entry). es ++ withdrawals c.going_with-marks.result c.who_of-2.result c.len-n.result)
    none)
    c.push_reserved.ensures.items
