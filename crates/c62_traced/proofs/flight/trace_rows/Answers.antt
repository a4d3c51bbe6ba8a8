use Rattle.std.proofs.Common.{◌≡◌, ℕ, ◌+◌, ◌-◌, ◌*◌, ◌^◌, ◌<◌, ◌≤◌, max, length, refl, sym, ◌∙◌, ap, subst, inl}
use Rattle.std.proofs.Common.{inr, arith, []}
use Rattle.c62_serial.specs.State.{Machine, IsSound, line_capacity}
use Rattle.c62_flight.specs.declared.stop.Stop.TheVariants.{End, Limit, Register}
use Rattle.c62_flight.specs.Text.{At, Outside}
use Rattle.c62_rows.specs.declared.rows.Rows.{Rows}
use Rattle.c62_rows.specs.Rows.{text_of}
use Rattle.c62_exec.specs.Step.{on_way}
use Rattle.c62_exec.proofs.Paths.{at_first, on_to}
use Rattle.c62_exec.proofs.Loop.{fits, enough, text_size}
use Rattle.c62_exec.proofs.Steps.{limit_flies, end_flies, register_flies, was_over, was_broken}
use Rattle.c62_exec.specs.declared.underway.Passed.{Passed}
use Rattle.c62_exec.specs.declared.underway.Passed.TheVariants.{Broken}
use Rattle.c62_traced.proofs.Cycles.{told_to}
use Rattle.c62_traced.proofs.Tracing.{path_log, traced_row, traced_down, traced_broken, flight_told}
use Rattle.c62_traced.proofs.flight.trace_rows.Goals.{then-row-len, else-row-len+then-any}
use Rattle.c62_traced.proofs.flight.trace_rows.Goals as goal

inside : (rows : Rows) (row count : ℕ) → count ≡ length rows.rows.items → row < count → row < length (text_of rows).rows
inside rows row count e l = let s : length (text_of rows).rows ≡ length rows.rows.items = text_size rows in omega arith

pub loop-row-init : goal.loop-row-init
loop-row-init g c =
    let sound : IsSound c.args.state.now.machine = subst IsSound c.in_ok-room.ensures.machine c.faults.ensures.sound
    in
    let size : length c.room.new.self.machine.faults ≡ length c.args.state.now.machine.faults = ap
    (λ (m : Machine). length m.faults) c.in_ok-room.ensures.machine in
    let rows : c.len.result ≡ length c.args.rows.now.rows.items = c.len.ensures ∙ c.args.rows.now.rows.ok.0 in
    let ok : 8 * (c.len.result + 1) ≤ c.room.new.self.room = c.in_ok-room.ensures.ok in
    record {
      traced = record {
        path = [];
        there = at_first (text_of c.args.rows.now) c.args.first c.args.limit c.args.state.now.machine
            (on_way c.new-underway.result.pipe c.new-underway.result.turns c.room.new.self.machine) sound
            c.new-underway.ensures.idle c.new-underway.ensures.size c.new-underway.ensures.turns
            c.in_ok-room.ensures.machine;
        told = g.met.T.Watch.nothing c.args.watch.now;
      };
      capacity = omega arith;
      row = omega arith;
      cycle = omega arith;
      most = c.from-most.ensures;
    }

pub returns-then-cycle-most : goal.returns-then-cycle-most
returns-then-cycle-most g c =
    let most : c.from-most.result ≡ c.args.limit = c.loop-row.invariant.most in
    let late : c.from-most.result ≤ c.loop-row.cycle = omega arith in (
      _,
      flight_told (text_of c.args.rows.now) c.args.first c.args.limit c.args.state.now.machine
          c.loop-row.invariant.traced.path
          c.in_ok-flown.flown.stop c.in_ok-flown.flown.cycles c.come_down.new.state.machine
          (limit_flies (text_of c.args.rows.now) c.args.first c.args.limit c.args.state.now.machine
          c.loop-row.invariant.traced.path
          c.loop-row.row c.loop-row.cycle
          (on_way c.loop-row.underway.pipe c.loop-row.underway.turns c.loop-row.state.machine)
          (on_way c.come_down.new.underway.pipe c.come_down.new.underway.turns c.come_down.new.state.machine)
          c.in_ok-flown.flown c.loop-row.invariant.traced.there
          (elim c.if-row-len.branch [
            | then-row-len w ↦ inl
                (inside c.args.rows.now c.loop-row.row c.len-in-loop-row.result (c.len-in-loop-row.ensures
                ∙ c.args.rows.now.rows.ok.0) w.if-row-len.true)
            | else-row-len+then-any w ↦ inr (sym w.any.ensures
                ∙ w.if-any.true)
          ])
          (omega arith) c.in_ok-flown.ensures.flown c.in_ok-flown.ensures.landed),
      subst (g.T.Watch.tells c.args.watch.now c.come_down.new.watch)
          (traced_down (text_of c.args.rows.now) c.args.first c.args.limit c.args.state.now.machine
          c.loop-row.invariant.traced.path
          (At c.loop-row.row) c.loop-row.cycle Limit
          (on_way c.loop-row.underway.pipe c.loop-row.underway.turns c.loop-row.state.machine)
          c.in_ok-flown.flown c.loop-row.invariant.traced.there c.in_ok-flown.ensures.flown)
          (g.met.T.Watch.more c.args.watch.now c.loop-row.watch c.come_down.new.watch _ _
          c.loop-row.invariant.traced.told c.in_ok-flown.ensures.told),
    )

pub run_row-requires-clause-fit : goal.run_row-requires-clause-fit
run_row-requires-clause-fit g c =
    fits (text_of c.args.rows.now) c.args.first c.args.limit c.args.state.now.machine
    c.loop-row.invariant.traced.path c.loop-row.row c.loop-row.cycle
    (on_way c.loop-row.underway.pipe c.loop-row.underway.turns c.loop-row.state.machine)
    c.loop-row.invariant.traced.there c.requires

pub run_row-requires-clause-room : goal.run_row-requires-clause-room
run_row-requires-clause-room g c =
    let size : length (text_of c.args.rows.now).rows ≡ length c.args.rows.now.rows.items = text_size c.args.rows.now in
    let capacity : length c.args.state.now.machine.faults + 8 * (length c.args.rows.now.rows.items + 1) ≤ line_capacity
    c.loop-row.state = c.loop-row.invariant.capacity in
    enough (text_of c.args.rows.now) c.args.first c.args.limit c.args.state.now.machine
    c.loop-row.invariant.traced.path c.loop-row.row c.loop-row.cycle
    (on_way c.loop-row.underway.pipe c.loop-row.underway.turns c.loop-row.state.machine) c.loop-row.state
    c.loop-row.invariant.traced.there c.requires refl (omega arith)

pub returns-in-Broken : goal.returns-in-Broken
returns-in-Broken g c =
    let less : c.loop-row.cycle < c.args.limit = (let most : c.from-most.result ≡ c.args.limit =
    c.loop-row.invariant.most in
    let less : c.loop-row.cycle < c.from-most.result = omega arith in omega arith) in
    let is = (rw c.in-Broken.is at c.in_ok-end.ensures.passed) in (
      _,
      flight_told (text_of c.args.rows.now) c.args.first c.args.limit c.args.state.now.machine
          (on_to c.loop-row.invariant.traced.path c.loop-row.row c.loop-row.cycle) c.in-Broken.stop
          (c.in-Broken.broken + 1) c.settle.new.state.machine
          (was_broken (text_of c.args.rows.now) c.args.first c.args.limit c.args.state.now.machine
          c.loop-row.invariant.traced.path
          c.loop-row.row c.loop-row.cycle
          (on_way c.loop-row.underway.pipe c.loop-row.underway.turns c.loop-row.state.machine)
          (on_way c.run_row.new.underway.pipe c.run_row.new.underway.turns c.run_row.new.state.machine)
          c.in_ok-end.field-0 c.requires c.loop-row.invariant.traced.there
          (elim c.if-row-len.branch [
            | then-row-len w ↦ inl
                (inside c.args.rows.now c.loop-row.row c.len-in-loop-row.result (c.len-in-loop-row.ensures
                ∙ c.args.rows.now.rows.ok.0) w.if-row-len.true)
            | else-row-len+then-any w ↦ inr (sym w.any.ensures
                ∙ w.if-any.true)
          ])
          less c.in_ok-end.ensures.passed c.in-Broken.broken c.in-Broken.stop
          (on_way c.settle.new.self.pipe c.settle.new.self.turns c.settle.new.state.machine) c.in-Broken.is
          c.settle.ensures),
      subst (g.T.Watch.tells c.args.watch.now c.tell_settling.new.watch)
          (traced_broken (text_of c.args.rows.now) c.args.first c.args.limit c.args.state.now.machine
          c.loop-row.invariant.traced.path
          c.loop-row.row c.loop-row.cycle
          (on_way c.loop-row.underway.pipe c.loop-row.underway.turns c.loop-row.state.machine)
          (on_way c.run_row.new.underway.pipe c.run_row.new.underway.turns c.run_row.new.state.machine)
          c.in-Broken.broken c.in-Broken.stop c.requires c.loop-row.invariant.traced.there
          (elim c.if-row-len.branch [
            | then-row-len w ↦ inl
                (inside c.args.rows.now c.loop-row.row c.len-in-loop-row.result (c.len-in-loop-row.ensures
                ∙ c.args.rows.now.rows.ok.0) w.if-row-len.true)
            | else-row-len+then-any w ↦ inr (sym w.any.ensures
                ∙ w.if-any.true)
          ])
          less is)
          (g.met.T.Watch.more c.args.watch.now c.run_row.new.watch c.tell_settling.new.watch _ _
          (subst (g.T.Watch.tells c.args.watch.now c.run_row.new.watch)
          (traced_row (text_of c.args.rows.now) c.args.first c.args.limit c.args.state.now.machine
          c.loop-row.invariant.traced.path
          c.loop-row.row c.loop-row.cycle
          (on_way c.loop-row.underway.pipe c.loop-row.underway.turns c.loop-row.state.machine)
          (on_way c.run_row.new.underway.pipe c.run_row.new.underway.turns c.run_row.new.state.machine)
          (Broken c.in-Broken.broken c.in-Broken.stop) c.requires c.loop-row.invariant.traced.there is)
          (g.met.T.Watch.more c.args.watch.now c.loop-row.watch c.run_row.new.watch _ _
          c.loop-row.invariant.traced.told c.in_ok-end.ensures.told))
          c.in_ok-tell_settling-in-Broken.ensures),
    )

pub returns-in-Err : goal.returns-in-Err
returns-in-Err g c =
    let over = was_over (text_of c.args.rows.now) c.args.first c.args.limit c.args.state.now.machine
    c.loop-row.invariant.traced.path c.loop-row.row c.loop-row.cycle
    (on_way c.loop-row.underway.pipe c.loop-row.underway.turns c.loop-row.state.machine)
    (on_way c.run_row.new.underway.pipe c.run_row.new.underway.turns c.run_row.new.state.machine)
    c.in_ok-end.field-0 c.requires
    c.loop-row.invariant.traced.there
    (elim c.if-row-len.branch [
      | then-row-len w ↦ inl
          (inside c.args.rows.now c.loop-row.row c.len-in-loop-row.result (c.len-in-loop-row.ensures
          ∙ c.args.rows.now.rows.ok.0) w.if-row-len.true)
      | else-row-len+then-any w ↦ inr (sym w.any.ensures
          ∙ w.if-any.true)
    ])
    (let most : c.from-most.result ≡ c.args.limit = c.loop-row.invariant.most in
    let less : c.loop-row.cycle < c.from-most.result = omega arith in omega arith)
    c.in_ok-end.ensures.passed c.in-Over.end c.in-Over.turn (Outside c.in-Err.word) c.in-Over.is
    c.in-Err.ensures.position in
    let told = subst (λ (p : Passed). g.T.Watch.tells c.args.watch.now c.run_row.new.watch
    (path_log (text_of c.args.rows.now) c.args.state.now.machine
    (on_to c.loop-row.invariant.traced.path c.loop-row.row c.loop-row.cycle) (told_to p))) c.in-Over.is
    (subst (g.T.Watch.tells c.args.watch.now c.run_row.new.watch)
    (traced_row (text_of c.args.rows.now) c.args.first c.args.limit c.args.state.now.machine
    c.loop-row.invariant.traced.path
    c.loop-row.row c.loop-row.cycle
    (on_way c.loop-row.underway.pipe c.loop-row.underway.turns c.loop-row.state.machine)
    (on_way c.run_row.new.underway.pipe c.run_row.new.underway.turns c.run_row.new.state.machine)
    c.in_ok-end.field-0 c.requires c.loop-row.invariant.traced.there c.in_ok-end.ensures.passed)
    (g.met.T.Watch.more c.args.watch.now c.loop-row.watch c.run_row.new.watch _ _ c.loop-row.invariant.traced.told
    c.in_ok-end.ensures.told)) in (
      _,
      flight_told (text_of c.args.rows.now) c.args.first c.args.limit c.args.state.now.machine
          (on_to c.loop-row.invariant.traced.path c.loop-row.row c.loop-row.cycle) c.in_ok-flown-in-Err.flown.stop
          c.in_ok-flown-in-Err.flown.cycles
          c.come_down-in-Err.new.state.machine
          (register_flies (text_of c.args.rows.now) c.args.first c.args.limit c.args.state.now.machine
          (on_to c.loop-row.invariant.traced.path c.loop-row.row c.loop-row.cycle) c.in-Err.word c.in-Over.end
          (on_way c.run_row.new.underway.pipe c.run_row.new.underway.turns c.run_row.new.state.machine)
          (on_way c.come_down-in-Err.new.underway.pipe c.come_down-in-Err.new.underway.turns
          c.come_down-in-Err.new.state.machine)
          c.in_ok-flown-in-Err.flown over.0 c.in_ok-flown-in-Err.ensures.flown c.in_ok-flown-in-Err.ensures.landed),
      subst (g.T.Watch.tells c.args.watch.now c.come_down-in-Err.new.watch)
          (traced_down (text_of c.args.rows.now) c.args.first c.args.limit c.args.state.now.machine
          (on_to c.loop-row.invariant.traced.path c.loop-row.row c.loop-row.cycle) (Outside c.in-Err.word)
          c.in-Over.end (Register c.in-Err.word)
          (on_way c.run_row.new.underway.pipe c.run_row.new.underway.turns c.run_row.new.state.machine)
          c.in_ok-flown-in-Err.flown over.0 c.in_ok-flown-in-Err.ensures.flown)
          (g.met.T.Watch.more c.args.watch.now c.run_row.new.watch c.come_down-in-Err.new.watch _ _ told
          c.in_ok-flown-in-Err.ensures.told),
    )

pub loop-row-smaller : goal.loop-row-smaller
loop-row-smaller g c =
    let over = was_over (text_of c.args.rows.now) c.args.first c.args.limit c.args.state.now.machine
    c.loop-row.invariant.traced.path c.loop-row.row c.loop-row.cycle
    (on_way c.loop-row.underway.pipe c.loop-row.underway.turns c.loop-row.state.machine)
    (on_way c.run_row.new.underway.pipe c.run_row.new.underway.turns c.run_row.new.state.machine)
    c.in_ok-end.field-0 c.requires
    c.loop-row.invariant.traced.there
    (elim c.if-row-len.branch [
      | then-row-len w ↦ inl
          (inside c.args.rows.now c.loop-row.row c.len-in-loop-row.result (c.len-in-loop-row.ensures
          ∙ c.args.rows.now.rows.ok.0) w.if-row-len.true)
      | else-row-len+then-any w ↦ inr (sym w.any.ensures
          ∙ w.if-any.true)
    ])
    (let most : c.from-most.result ≡ c.args.limit = c.loop-row.invariant.most in
    let less : c.loop-row.cycle < c.from-most.result = omega arith in omega arith)
    c.in_ok-end.ensures.passed c.in-Over.end c.in-Over.turn (At c.in-Ok.next) c.in-Over.is c.in-Ok.ensures.position in
    let later : c.loop-row.cycle < c.in-Over.end = over.1 in
    let before : c.loop-row.cycle < c.from-most.result = omega arith in
    let smaller : c.from-most.result - c.in-Over.end < c.from-most.result - c.loop-row.cycle = omega arith in
    smaller

pub loop-row-preserved : goal.loop-row-preserved
loop-row-preserved g c =
    let over = was_over (text_of c.args.rows.now) c.args.first c.args.limit c.args.state.now.machine
    c.loop-row.invariant.traced.path c.loop-row.row c.loop-row.cycle
    (on_way c.loop-row.underway.pipe c.loop-row.underway.turns c.loop-row.state.machine)
    (on_way c.run_row.new.underway.pipe c.run_row.new.underway.turns c.run_row.new.state.machine)
    c.in_ok-end.field-0 c.requires
    c.loop-row.invariant.traced.there
    (elim c.if-row-len.branch [
      | then-row-len w ↦ inl
          (inside c.args.rows.now c.loop-row.row c.len-in-loop-row.result (c.len-in-loop-row.ensures
          ∙ c.args.rows.now.rows.ok.0) w.if-row-len.true)
      | else-row-len+then-any w ↦ inr (sym w.any.ensures
          ∙ w.if-any.true)
    ])
    (let most : c.from-most.result ≡ c.args.limit = c.loop-row.invariant.most in
    let less : c.loop-row.cycle < c.from-most.result = omega arith in omega arith)
    c.in_ok-end.ensures.passed c.in-Over.end c.in-Over.turn (At c.in-Ok.next) c.in-Over.is c.in-Ok.ensures.position in
    let told = subst (λ (p : Passed). g.T.Watch.tells c.args.watch.now c.run_row.new.watch
    (path_log (text_of c.args.rows.now) c.args.state.now.machine
    (on_to c.loop-row.invariant.traced.path c.loop-row.row c.loop-row.cycle) (told_to p))) c.in-Over.is
    (subst (g.T.Watch.tells c.args.watch.now c.run_row.new.watch)
    (traced_row (text_of c.args.rows.now) c.args.first c.args.limit c.args.state.now.machine
    c.loop-row.invariant.traced.path
    c.loop-row.row c.loop-row.cycle
    (on_way c.loop-row.underway.pipe c.loop-row.underway.turns c.loop-row.state.machine)
    (on_way c.run_row.new.underway.pipe c.run_row.new.underway.turns c.run_row.new.state.machine)
    c.in_ok-end.field-0 c.requires c.loop-row.invariant.traced.there c.in_ok-end.ensures.passed)
    (g.met.T.Watch.more c.args.watch.now c.loop-row.watch c.run_row.new.watch _ _ c.loop-row.invariant.traced.told
    c.in_ok-end.ensures.told)) in
    let later : c.loop-row.cycle < c.in-Over.end = over.1 in
    let before : c.loop-row.cycle < c.from-most.result = omega arith in
    let end : c.in-Over.end ≤ c.loop-row.cycle + 2 ^ 32 = rw c.in-Over.is at c.in_ok-end.ensures.end in
    let row : c.loop-row.row ≤ 2 ^ 32 + c.loop-row.cycle = c.loop-row.invariant.row in
    let next : c.in-Ok.next ≤ max (c.loop-row.row + 1) (2 ^ 32) = c.in-Ok.ensures.bound in
    let capacity : length c.args.state.now.machine.faults + 8 * (length c.args.rows.now.rows.items + 1) ≤ line_capacity
    c.loop-row.state = c.loop-row.invariant.capacity in
    let same : line_capacity c.run_row.new.state ≡ line_capacity c.loop-row.state = c.in_ok-end.ensures.capacity in
    record {
      traced = record {
        path = (on_to c.loop-row.invariant.traced.path c.loop-row.row c.loop-row.cycle);
        there = over.0;
        told = told;
      };
      capacity = omega arith;
      row = omega arith;
      cycle = omega arith;
      most = c.loop-row.invariant.most;
    }

pub returns : goal.returns
returns g c =
    let size : length (text_of c.args.rows.now).rows ≡ length c.args.rows.now.rows.items = text_size c.args.rows.now in
    let count : c.len-in-loop-row.result ≡ length c.args.rows.now.rows.items = c.len-in-loop-row.ensures
    ∙ c.args.rows.now.rows.ok.0 in
    let past : c.len-in-loop-row.result ≤ c.loop-row.row = omega arith in (
      _,
      flight_told (text_of c.args.rows.now) c.args.first c.args.limit c.args.state.now.machine
          c.loop-row.invariant.traced.path
          c.in_ok-flown-2.flown.stop c.in_ok-flown-2.flown.cycles c.come_down-2.new.state.machine
          (end_flies (text_of c.args.rows.now) c.args.first c.args.limit c.args.state.now.machine
          c.loop-row.invariant.traced.path
          c.loop-row.row c.loop-row.cycle
          (on_way c.loop-row.underway.pipe c.loop-row.underway.turns c.loop-row.state.machine)
          (on_way c.come_down-2.new.underway.pipe c.come_down-2.new.underway.turns c.come_down-2.new.state.machine)
          c.in_ok-flown-2.flown c.loop-row.invariant.traced.there
          (omega arith) (sym c.any.ensures ∙ c.if-any.false) c.in_ok-flown-2.ensures.flown
          c.in_ok-flown-2.ensures.landed),
      subst (g.T.Watch.tells c.args.watch.now c.come_down-2.new.watch)
          (traced_down (text_of c.args.rows.now) c.args.first c.args.limit c.args.state.now.machine
          c.loop-row.invariant.traced.path
          (At c.loop-row.row) c.loop-row.cycle End
          (on_way c.loop-row.underway.pipe c.loop-row.underway.turns c.loop-row.state.machine)
          c.in_ok-flown-2.flown c.loop-row.invariant.traced.there c.in_ok-flown-2.ensures.flown)
          (g.met.T.Watch.more c.args.watch.now c.loop-row.watch c.come_down-2.new.watch _ _
          c.loop-row.invariant.traced.told c.in_ok-flown-2.ensures.told),
    )
