use Rattle.std.proofs.Common.{◌≡◌, ℕ, ◌+◌, ◌-◌, ◌*◌, ◌^◌, ◌<◌, ◌≤◌, max, length, refl, sym, ◌∙◌, ap, subst, inl, inr}
use Rattle.std.proofs.Common.{arith}
use Rattle.c62_serial.specs.State.{Machine, IsSound, line_capacity}
use Rattle.c62_flight.specs.declared.stop.Stop.TheVariants.{End, Limit, Register}
use Rattle.c62_flight.specs.Text.{At, Outside}
use Rattle.c62_rows.specs.declared.rows.Rows.{Rows}
use Rattle.c62_rows.specs.Rows.{text_of}
use Rattle.c62_exec.specs.Step.{on_way}
use Rattle.c62_exec.specs.Counts.{closed, with_run}
use Rattle.c62_exec.proofs.Paths.{IsAt, at_first, on_to}
use Rattle.c62_exec.proofs.Tallies.{same_size}
use Rattle.c62_exec.proofs.Counted.{IsBegun, stopped_counted, counted_first, counted_over, ended_counted}
use Rattle.c62_exec.proofs.Soon.{soon_down}
use Rattle.c62_exec.proofs.Loop.{fits, enough, text_size}
use Rattle.c62_exec.proofs.Steps.{limit_flies, end_flies, register_flies, was_over, was_broken}
use Rattle.c62_exec.proofs.run.fly_rows.Goals as goal
use Rattle.c62_exec.proofs.run.fly_rows.Goals.{then-row-len, else-row-len+then-any}

inside : (rows : Rows) (row count : ℕ) → count ≡ length rows.rows.items → row < count → row < length (text_of rows).rows
inside rows row count e l = let s : length (text_of rows).rows ≡ length rows.rows.items = text_size rows in omega arith

pub loop-row-init : goal.loop-row-init
loop-row-init c =
    let sound : IsSound c.args.state.now.machine = subst IsSound c.in_ok-room.ensures.machine c.faults.ensures.sound in
    let size : length c.room.new.self.machine.faults ≡ length c.args.state.now.machine.faults = ap
    (λ (m : Machine). length m.faults) c.in_ok-room.ensures.machine in
    let rows : c.len.result ≡ length c.args.rows.now.rows.items = c.len.ensures ∙ c.args.rows.now.rows.ok.0 in
    let ok : 8 * (c.len.result + 1) ≤ c.room.new.self.room = c.in_ok-room.ensures.ok in
    record {
      counted = counted_first (text_of c.args.rows.now) c.args.first c.args.limit c.args.state.now.machine
          (on_way c.new-underway.result.pipe c.new-underway.result.turns c.room.new.self.machine)
          (length c.args.tally.now.counts.items) c.args.tally.now
          (at_first (text_of c.args.rows.now) c.args.first c.args.limit c.args.state.now.machine
          (on_way c.new-underway.result.pipe c.new-underway.result.turns c.room.new.self.machine) sound
          c.new-underway.ensures.idle c.new-underway.ensures.size c.new-underway.ensures.turns
          c.in_ok-room.ensures.machine) c.requires.fresh;
      size = refl;
      capacity = omega arith;
      row = omega arith;
      cycle = omega arith;
      most = c.from-most.ensures;
    }

pub returns-then-cycle-most-clause-ok : goal.returns-then-cycle-most-clause-ok
returns-then-cycle-most-clause-ok c =
    let most : c.from-most.result ≡ c.args.limit = c.loop-row.invariant.most in
    let late : c.from-most.result ≤ c.loop-row.cycle = omega arith in
    ended_counted (text_of c.args.rows.now) c.args.first c.args.limit c.args.state.now.machine (At c.loop-row.row)
    c.loop-row.cycle (on_way c.loop-row.underway.pipe c.loop-row.underway.turns c.loop-row.state.machine)
    c.loop-row.tally c.loop-row.invariant.counted
    c.come_down.result.stop c.come_down.result.cycles c.come_down.new.state.machine
    (limit_flies (text_of c.args.rows.now) c.args.first c.args.limit c.args.state.now.machine
    c.loop-row.invariant.counted.path c.loop-row.row c.loop-row.cycle
    (on_way c.loop-row.underway.pipe c.loop-row.underway.turns c.loop-row.state.machine)
    (on_way c.come_down.new.self.pipe c.come_down.new.self.turns c.come_down.new.state.machine) c.come_down.result
    c.loop-row.invariant.counted.there
    (elim c.if-row-len.branch [
      | then-row-len w ↦ inl
          (inside c.args.rows.now c.loop-row.row c.len-in-loop-row.result (c.len-in-loop-row.ensures
          ∙ c.args.rows.now.rows.ok.0) w.if-row-len.true)
      | else-row-len+then-any w ↦ inr (sym w.any.ensures
          ∙ w.if-any.true)
    ])
    (omega arith) c.come_down.ensures.flown c.come_down.ensures.landed)

pub run_row-requires-clause-fit : goal.run_row-requires-clause-fit
run_row-requires-clause-fit c =
    fits (text_of c.args.rows.now) c.args.first c.args.limit c.args.state.now.machine c.loop-row.invariant.counted.path
    c.loop-row.row c.loop-row.cycle
    (on_way c.loop-row.underway.pipe c.loop-row.underway.turns c.loop-row.state.machine)
    c.loop-row.invariant.counted.there c.requires.rows

pub run_row-requires-clause-room : goal.run_row-requires-clause-room
run_row-requires-clause-room c =
    let size : length (text_of c.args.rows.now).rows ≡ length c.args.rows.now.rows.items = text_size c.args.rows.now in
    let capacity : length c.args.state.now.machine.faults + 8 * (length c.args.rows.now.rows.items + 1) ≤ line_capacity
    c.loop-row.state = c.loop-row.invariant.capacity in
    enough (text_of c.args.rows.now) c.args.first c.args.limit c.args.state.now.machine
    c.loop-row.invariant.counted.path c.loop-row.row c.loop-row.cycle
    (on_way c.loop-row.underway.pipe c.loop-row.underway.turns c.loop-row.state.machine) c.loop-row.state
    c.loop-row.invariant.counted.there c.requires.rows refl (omega arith)

pub returns-in-Broken-clause-ok : goal.returns-in-Broken-clause-ok
returns-in-Broken-clause-ok c =
    let begun : IsBegun (text_of c.args.rows.now) c.args.first c.args.limit c.args.state.now.machine c.loop-row.row
    c.loop-row.cycle c.loop-row.tally c.begin.new.self = record {
      counts = c.begin.ensures.counts
          ∙ ap (λ r. with_run r (closed c.loop-row.cycle c.loop-row.tally)) c.place_of.ensures;
      place = c.begin.ensures.row ∙ c.place_of.ensures;
      start = c.begin.ensures.start;
      below = c.begin.ensures.below;
    } in
    stopped_counted (text_of c.args.rows.now) c.args.first c.args.limit c.args.state.now.machine c.loop-row.row
    c.loop-row.cycle (on_way c.loop-row.underway.pipe c.loop-row.underway.turns c.loop-row.state.machine)
    c.loop-row.tally c.begin.new.self c.loop-row.invariant.counted begun c.in-Broken.stop
    (c.in-Broken.broken + 1) c.settle.new.state.machine
    (was_broken (text_of c.args.rows.now) c.args.first c.args.limit c.args.state.now.machine
    c.loop-row.invariant.counted.path c.loop-row.row c.loop-row.cycle
    (on_way c.loop-row.underway.pipe c.loop-row.underway.turns c.loop-row.state.machine)
    (on_way c.run_row.new.underway.pipe c.run_row.new.underway.turns c.run_row.new.state.machine)
    c.run_row.result c.requires.rows c.loop-row.invariant.counted.there
    (elim c.if-row-len.branch [
      | then-row-len w ↦ inl
          (inside c.args.rows.now c.loop-row.row c.len-in-loop-row.result (c.len-in-loop-row.ensures
          ∙ c.args.rows.now.rows.ok.0) w.if-row-len.true)
      | else-row-len+then-any w ↦ inr (sym w.any.ensures
          ∙ w.if-any.true)
    ])
    (let most : c.from-most.result ≡ c.args.limit = c.loop-row.invariant.most in let less : c.loop-row.cycle <
    c.from-most.result = omega arith in omega arith) c.run_row.ensures.passed
    c.in-Broken.broken c.in-Broken.stop
    (on_way c.settle.new.self.pipe c.settle.new.self.turns c.settle.new.state.machine) c.in-Broken.is
    c.settle.ensures)

pub returns-in-Err-clause-ok : goal.returns-in-Err-clause-ok
returns-in-Err-clause-ok c =
    let over = was_over (text_of c.args.rows.now) c.args.first c.args.limit c.args.state.now.machine
    c.loop-row.invariant.counted.path c.loop-row.row c.loop-row.cycle
    (on_way c.loop-row.underway.pipe c.loop-row.underway.turns c.loop-row.state.machine)
    (on_way c.run_row.new.underway.pipe c.run_row.new.underway.turns c.run_row.new.state.machine)
    c.run_row.result c.requires.rows c.loop-row.invariant.counted.there
    (elim c.if-row-len.branch [
      | then-row-len w ↦ inl
          (inside c.args.rows.now c.loop-row.row c.len-in-loop-row.result (c.len-in-loop-row.ensures
          ∙ c.args.rows.now.rows.ok.0) w.if-row-len.true)
      | else-row-len+then-any w ↦ inr (sym w.any.ensures
          ∙ w.if-any.true)
    ])
    (let most : c.from-most.result ≡ c.args.limit = c.loop-row.invariant.most in let less : c.loop-row.cycle <
    c.from-most.result = omega arith in omega arith) c.run_row.ensures.passed
    c.in-Over.end c.in-Over.turn (Outside c.in-Err.word) c.in-Over.is c.in-Err.ensures.position in
    let begun : IsBegun (text_of c.args.rows.now) c.args.first c.args.limit c.args.state.now.machine c.loop-row.row
    c.loop-row.cycle c.loop-row.tally c.begin.new.self = record {
      counts = c.begin.ensures.counts
          ∙ ap (λ r. with_run r (closed c.loop-row.cycle c.loop-row.tally)) c.place_of.ensures;
      place = c.begin.ensures.row ∙ c.place_of.ensures;
      start = c.begin.ensures.start;
      below = c.begin.ensures.below;
    } in
    stopped_counted (text_of c.args.rows.now) c.args.first c.args.limit c.args.state.now.machine c.loop-row.row
    c.loop-row.cycle (on_way c.loop-row.underway.pipe c.loop-row.underway.turns c.loop-row.state.machine)
    c.loop-row.tally c.begin.new.self c.loop-row.invariant.counted begun
    c.come_down-in-Err.result.stop c.come_down-in-Err.result.cycles c.come_down-in-Err.new.state.machine
    (register_flies (text_of c.args.rows.now) c.args.first c.args.limit c.args.state.now.machine
    (on_to c.loop-row.invariant.counted.path c.loop-row.row c.loop-row.cycle) c.in-Err.word c.in-Over.end
    (on_way c.run_row.new.underway.pipe c.run_row.new.underway.turns c.run_row.new.state.machine)
    (on_way c.come_down-in-Err.new.self.pipe c.come_down-in-Err.new.self.turns c.come_down-in-Err.new.state.machine)
    c.come_down-in-Err.result over.0
    c.come_down-in-Err.ensures.flown c.come_down-in-Err.ensures.landed)

pub loop-row-smaller : goal.loop-row-smaller
loop-row-smaller c =
    let over = was_over (text_of c.args.rows.now) c.args.first c.args.limit c.args.state.now.machine
    c.loop-row.invariant.counted.path c.loop-row.row c.loop-row.cycle
    (on_way c.loop-row.underway.pipe c.loop-row.underway.turns c.loop-row.state.machine)
    (on_way c.run_row.new.underway.pipe c.run_row.new.underway.turns c.run_row.new.state.machine)
    c.run_row.result c.requires.rows c.loop-row.invariant.counted.there
    (elim c.if-row-len.branch [
      | then-row-len w ↦ inl
          (inside c.args.rows.now c.loop-row.row c.len-in-loop-row.result (c.len-in-loop-row.ensures
          ∙ c.args.rows.now.rows.ok.0) w.if-row-len.true)
      | else-row-len+then-any w ↦ inr (sym w.any.ensures
          ∙ w.if-any.true)
    ])
    (let most : c.from-most.result ≡ c.args.limit = c.loop-row.invariant.most in let less : c.loop-row.cycle <
    c.from-most.result = omega arith in omega arith) c.run_row.ensures.passed
    c.in-Over.end c.in-Over.turn (At c.in-Ok.next) c.in-Over.is c.in-Ok.ensures.position in
    let later : c.loop-row.cycle < c.in-Over.end = over.1 in
    let before : c.loop-row.cycle < c.from-most.result = omega arith in
    let smaller : c.from-most.result - c.in-Over.end < c.from-most.result - c.loop-row.cycle = omega arith in
    smaller

pub loop-row-preserved : goal.loop-row-preserved
loop-row-preserved c =
    let over = was_over (text_of c.args.rows.now) c.args.first c.args.limit c.args.state.now.machine
    c.loop-row.invariant.counted.path c.loop-row.row c.loop-row.cycle
    (on_way c.loop-row.underway.pipe c.loop-row.underway.turns c.loop-row.state.machine)
    (on_way c.run_row.new.underway.pipe c.run_row.new.underway.turns c.run_row.new.state.machine)
    c.run_row.result c.requires.rows c.loop-row.invariant.counted.there
    (elim c.if-row-len.branch [
      | then-row-len w ↦ inl
          (inside c.args.rows.now c.loop-row.row c.len-in-loop-row.result (c.len-in-loop-row.ensures
          ∙ c.args.rows.now.rows.ok.0) w.if-row-len.true)
      | else-row-len+then-any w ↦ inr (sym w.any.ensures
          ∙ w.if-any.true)
    ])
    (let most : c.from-most.result ≡ c.args.limit = c.loop-row.invariant.most in let less : c.loop-row.cycle <
    c.from-most.result = omega arith in omega arith) c.run_row.ensures.passed
    c.in-Over.end c.in-Over.turn (At c.in-Ok.next) c.in-Over.is c.in-Ok.ensures.position in
    let later : c.loop-row.cycle < c.in-Over.end = over.1 in
    let before : c.loop-row.cycle < c.from-most.result = omega arith in
    let end : c.in-Over.end ≤ c.loop-row.cycle + 2 ^ 32 = c.in-Over.ensures.end in
    let row : c.loop-row.row ≤ 2 ^ 32 + c.loop-row.cycle = c.loop-row.invariant.row in
    let next : c.in-Ok.next ≤ max (c.loop-row.row + 1) (2 ^ 32) = c.in-Ok.ensures.bound in
    let capacity : length c.args.state.now.machine.faults + 8 * (length c.args.rows.now.rows.items + 1) ≤ line_capacity
    c.loop-row.state = c.loop-row.invariant.capacity in
    let same : line_capacity c.run_row.new.state ≡ line_capacity c.loop-row.state = c.run_row.ensures.capacity in
    let begun : IsBegun (text_of c.args.rows.now) c.args.first c.args.limit c.args.state.now.machine c.loop-row.row
    c.loop-row.cycle c.loop-row.tally c.begin.new.self = record {
      counts = c.begin.ensures.counts
          ∙ ap (λ r. with_run r (closed c.loop-row.cycle c.loop-row.tally)) c.place_of.ensures;
      place = c.begin.ensures.row ∙ c.place_of.ensures;
      start = c.begin.ensures.start;
      below = c.begin.ensures.below;
    } in
    record {
      counted = counted_over (text_of c.args.rows.now) c.args.first c.args.limit c.args.state.now.machine c.loop-row.row
          c.loop-row.cycle (on_way c.loop-row.underway.pipe c.loop-row.underway.turns c.loop-row.state.machine)
          c.loop-row.tally c.begin.new.self c.loop-row.invariant.counted begun (At c.in-Ok.next) c.in-Over.end
          (on_way c.run_row.new.underway.pipe c.run_row.new.underway.turns c.run_row.new.state.machine) over.0
          over.1;
      size = ap length c.begin.ensures.counts ∙ same_size c.place_of.result c.loop-row.cycle c.loop-row.tally
          ∙ c.loop-row.invariant.size;
      capacity = omega arith;
      row = omega arith;
      cycle = omega arith;
      most = c.loop-row.invariant.most;
    }

pub returns-clause-ok : goal.returns-clause-ok
returns-clause-ok c =
    let size : length (text_of c.args.rows.now).rows ≡ length c.args.rows.now.rows.items = text_size c.args.rows.now in
    let count : c.len-in-loop-row.result ≡ length c.args.rows.now.rows.items = c.len-in-loop-row.ensures
    ∙ c.args.rows.now.rows.ok.0 in
    let past : c.len-in-loop-row.result ≤ c.loop-row.row = omega arith in
    ended_counted (text_of c.args.rows.now) c.args.first c.args.limit c.args.state.now.machine (At c.loop-row.row)
    c.loop-row.cycle (on_way c.loop-row.underway.pipe c.loop-row.underway.turns c.loop-row.state.machine)
    c.loop-row.tally c.loop-row.invariant.counted
    c.come_down-2.result.stop c.come_down-2.result.cycles c.come_down-2.new.state.machine
    (end_flies (text_of c.args.rows.now) c.args.first c.args.limit c.args.state.now.machine
    c.loop-row.invariant.counted.path c.loop-row.row c.loop-row.cycle
    (on_way c.loop-row.underway.pipe c.loop-row.underway.turns c.loop-row.state.machine)
    (on_way c.come_down-2.new.self.pipe c.come_down-2.new.self.turns c.come_down-2.new.state.machine)
    c.come_down-2.result c.loop-row.invariant.counted.there
    (omega arith) (sym c.any.ensures ∙ c.if-any.false) c.come_down-2.ensures.flown c.come_down-2.ensures.landed)

pub returns-in-Broken-clause-size : goal.returns-in-Broken-clause-size
returns-in-Broken-clause-size c = ap length c.begin.ensures.counts
    ∙ same_size c.place_of.result c.loop-row.cycle c.loop-row.tally ∙ c.loop-row.invariant.size

pub returns-in-Err-clause-size : goal.returns-in-Err-clause-size
returns-in-Err-clause-size c = ap length c.begin.ensures.counts
    ∙ same_size c.place_of.result c.loop-row.cycle c.loop-row.tally ∙ c.loop-row.invariant.size

pub returns-then-cycle-most-clause-soon : goal.returns-then-cycle-most-clause-soon
returns-then-cycle-most-clause-soon c =
    let most : c.from-most.result ≡ c.args.limit = c.loop-row.invariant.most in
    let cycle : c.loop-row.cycle ≤ c.from-most.result + 2 ^ 33 = c.loop-row.invariant.cycle in
    let down : c.come_down.result.cycles ≡ c.loop-row.cycle = soon_down Limit c.loop-row.cycle
    c.loop-row.underway.pipe.slots c.come_down.result c.come_down.ensures.flown in
    omega arith

pub returns-in-Broken-clause-soon : goal.returns-in-Broken-clause-soon
returns-in-Broken-clause-soon c =
    let most : c.from-most.result ≡ c.args.limit = c.loop-row.invariant.most in
    let less : c.loop-row.cycle < c.from-most.result = omega arith in
    let end : c.in-Broken.broken ≤ c.loop-row.cycle + 2 ^ 32 = c.in-Broken.ensures.end in
    omega arith

pub returns-in-Err-clause-soon : goal.returns-in-Err-clause-soon
returns-in-Err-clause-soon c =
    let most : c.from-most.result ≡ c.args.limit = c.loop-row.invariant.most in
    let less : c.loop-row.cycle < c.from-most.result = omega arith in
    let end : c.in-Over.end ≤ c.loop-row.cycle + 2 ^ 32 = c.in-Over.ensures.end in
    let down : c.come_down-in-Err.result.cycles ≡ c.in-Over.end =
    soon_down (Register c.in-Err.word) c.in-Over.end c.run_row.new.underway.pipe.slots c.come_down-in-Err.result
    c.come_down-in-Err.ensures.flown in
    omega arith

pub returns-clause-soon : goal.returns-clause-soon
returns-clause-soon c =
    let most : c.from-most.result ≡ c.args.limit = c.loop-row.invariant.most in
    let cycle : c.loop-row.cycle ≤ c.from-most.result + 2 ^ 33 = c.loop-row.invariant.cycle in
    let down : c.come_down-2.result.cycles ≡ c.loop-row.cycle = soon_down End c.loop-row.cycle
    c.loop-row.underway.pipe.slots c.come_down-2.result c.come_down-2.ensures.flown in
    omega arith
