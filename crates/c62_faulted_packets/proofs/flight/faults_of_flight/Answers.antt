use Rattle.std.proofs.Common.{◌≡◌, ℕ, ◌+◌, ◌-◌, ◌*◌, ◌^◌, ◌<◌, ◌≤◌, max, length, refl, sym, ◌∙◌, ap, subst, inl, inr}
use Rattle.std.proofs.Common.{arith}
use Rattle.c62_serial.specs.State.{Machine, IsSound, line_capacity}
use Rattle.c62_flight.specs.Text.{At, Outside}
use Rattle.c62_rows.specs.declared.rows.Rows.{Rows}
use Rattle.c62_rows.specs.Rows.{text_of}
use Rattle.c62_exec.specs.Step.{on_way}
use Rattle.c62_exec.proofs.Paths.{at_first, on_to}
use Rattle.c62_exec.proofs.Loop.{fits, enough, text_size}
use Rattle.c62_exec.proofs.Steps.{limit_flies, end_flies, register_flies, was_over, was_broken}
use Rattle.c62_faulted.specs.Faulted.{with_faults}
use Rattle.c62_faulted_packets.specs.Done.{faults_at}
use Rattle.c62_faulted_packets.proofs.Rows.{AreNoted, noted_flight, noted_row, noted_start}
use Rattle.c62_faulted_packets.proofs.flight.faults_of_flight.Goals as goal
use Rattle.c62_faulted_packets.proofs.flight.faults_of_flight.Goals.{then-row-len, else-row-len+then-any}

inside : (rows : Rows) (row count : ℕ) → count ≡ length rows.rows.items → row < count → row < length (text_of rows).rows
inside rows row count e l = let s : length (text_of rows).rows ≡ length rows.rows.items = text_size rows in omega arith

pub loop-row-init : goal.loop-row-init
loop-row-init c =
    let sound : IsSound c.args.state.now.machine = subst IsSound c.in_ok-room.ensures.machine c.faults.ensures.sound
    in
    let size : length c.room.new.self.machine.faults ≡ length c.args.state.now.machine.faults = ap
    (λ (m : Machine). length m.faults) c.in_ok-room.ensures.machine in
    let rows : c.len.result ≡ length c.args.rows.now.rows.items = c.len.ensures ∙ c.args.rows.now.rows.ok.0 in
    let ok : 8 * (c.len.result + 1) ≤ c.room.new.self.room = c.in_ok-room.ensures.ok in
    record {
      noted = noted_start (text_of c.args.rows.now) c.args.first c.args.limit c.args.state.now.machine
          (on_way c.new-underway.result.pipe c.new-underway.result.turns c.room.new.self.machine)
          c.new-faults.result.items
          (at_first (text_of c.args.rows.now) c.args.first c.args.limit c.args.state.now.machine
          (on_way c.new-underway.result.pipe c.new-underway.result.turns c.room.new.self.machine) sound
          c.new-underway.ensures.idle c.new-underway.ensures.size c.new-underway.ensures.turns
          c.in_ok-room.ensures.machine) c.new-faults.ensures.items;
      capacity = omega arith;
      row = omega arith;
      cycle = omega arith;
      most = c.from-most.ensures;
    }

pub returns-then-cycle-most : goal.returns-then-cycle-most
returns-then-cycle-most c =
    let most : c.from-most.result ≡ c.args.limit = c.loop-row.invariant.most in
    let late : c.from-most.result ≤ c.loop-row.cycle = omega arith in
    noted_flight (text_of c.args.rows.now) c.args.first c.args.limit c.args.state.now.machine
    c.loop-row.invariant.noted.path c.loop-row.faults.items
    c.come_down.result.stop c.come_down.result.cycles c.come_down.new.state.machine c.loop-row.invariant.noted.noted
    (limit_flies (text_of c.args.rows.now) c.args.first c.args.limit c.args.state.now.machine
    c.loop-row.invariant.noted.path c.loop-row.row c.loop-row.cycle
    (on_way c.loop-row.underway.pipe c.loop-row.underway.turns c.loop-row.state.machine)
    (on_way c.come_down.new.self.pipe c.come_down.new.self.turns c.come_down.new.state.machine) c.come_down.result
    c.loop-row.invariant.noted.there
    (elim c.if-row-len.branch [
      | then-row-len w ↦ inl
          (inside c.args.rows.now c.loop-row.row c.len-in-loop-row.result (c.len-in-loop-row.ensures
          ∙ c.args.rows.now.rows.ok.0) w.if-row-len.true)
      | else-row-len+then-any w ↦ inr (sym w.any.ensures
          ∙ w.if-any.true)
    ])
    (omega arith) c.come_down.ensures.flown c.come_down.ensures.landed)

pub run_row-requires-clause-fit : goal.run_row-requires-clause-fit
run_row-requires-clause-fit c =
    fits (text_of c.args.rows.now) c.args.first c.args.limit c.args.state.now.machine c.loop-row.invariant.noted.path
    c.loop-row.row c.loop-row.cycle
    (on_way c.loop-row.underway.pipe c.loop-row.underway.turns c.loop-row.state.machine)
    c.loop-row.invariant.noted.there c.requires.rows

pub run_row-requires-clause-room : goal.run_row-requires-clause-room
run_row-requires-clause-room c =
    let size : length (text_of c.args.rows.now).rows ≡ length c.args.rows.now.rows.items = text_size c.args.rows.now in
    let capacity : length c.args.state.now.machine.faults + 8 * (length c.args.rows.now.rows.items + 1) ≤ line_capacity
    c.loop-row.state = c.loop-row.invariant.capacity in
    enough (text_of c.args.rows.now) c.args.first c.args.limit c.args.state.now.machine
    c.loop-row.invariant.noted.path c.loop-row.row c.loop-row.cycle
    (on_way c.loop-row.underway.pipe c.loop-row.underway.turns c.loop-row.state.machine) c.loop-row.state
    c.loop-row.invariant.noted.there c.requires.rows refl (omega arith)

pub returns-in-Broken : goal.returns-in-Broken
returns-in-Broken c =
    let noted : AreNoted (text_of c.args.rows.now) c.args.state.now.machine
    (on_to c.loop-row.invariant.noted.path c.loop-row.row c.loop-row.cycle) c.note_packet.new.faults.items =
    noted_row (text_of c.args.rows.now) c.args.first c.args.limit c.args.state.now.machine
    c.loop-row.invariant.noted.path c.loop-row.row c.loop-row.cycle
    (on_way c.loop-row.underway.pipe c.loop-row.underway.turns c.loop-row.state.machine)
    c.loop-row.faults.items c.note_packet.new.faults.items c.loop-row.invariant.noted.there
    c.loop-row.invariant.noted.noted
    (c.in_ok-note_packet.ensures ∙ ap (λ insns. with_faults c.loop-row.faults.items
    (faults_at c.loop-row.state.machine insns)) c.insns_of.ensures) in
    noted_flight (text_of c.args.rows.now) c.args.first c.args.limit c.args.state.now.machine
    (on_to c.loop-row.invariant.noted.path c.loop-row.row c.loop-row.cycle) c.note_packet.new.faults.items
    c.in-Broken.field-1 (c.in-Broken.broken + 1) c.settle.new.state.machine noted
    (was_broken (text_of c.args.rows.now) c.args.first c.args.limit c.args.state.now.machine
    c.loop-row.invariant.noted.path c.loop-row.row c.loop-row.cycle
    (on_way c.loop-row.underway.pipe c.loop-row.underway.turns c.loop-row.state.machine)
    (on_way c.run_row.new.underway.pipe c.run_row.new.underway.turns c.run_row.new.state.machine)
    c.run_row.result c.requires.rows c.loop-row.invariant.noted.there
    (elim c.if-row-len.branch [
      | then-row-len w ↦ inl
          (inside c.args.rows.now c.loop-row.row c.len-in-loop-row.result (c.len-in-loop-row.ensures
          ∙ c.args.rows.now.rows.ok.0) w.if-row-len.true)
      | else-row-len+then-any w ↦ inr (sym w.any.ensures
          ∙ w.if-any.true)
    ])
    (let most : c.from-most.result ≡ c.args.limit = c.loop-row.invariant.most in let less : c.loop-row.cycle <
    c.from-most.result = omega arith in omega arith) c.run_row.ensures.passed
    c.in-Broken.broken c.in-Broken.field-1
    (on_way c.settle.new.self.pipe c.settle.new.self.turns c.settle.new.state.machine) c.in-Broken.is
    c.settle.ensures)

pub returns-in-Err : goal.returns-in-Err
returns-in-Err c =
    let over = was_over (text_of c.args.rows.now) c.args.first c.args.limit c.args.state.now.machine
    c.loop-row.invariant.noted.path c.loop-row.row c.loop-row.cycle
    (on_way c.loop-row.underway.pipe c.loop-row.underway.turns c.loop-row.state.machine)
    (on_way c.run_row.new.underway.pipe c.run_row.new.underway.turns c.run_row.new.state.machine)
    c.run_row.result c.requires.rows c.loop-row.invariant.noted.there
    (elim c.if-row-len.branch [
      | then-row-len w ↦ inl
          (inside c.args.rows.now c.loop-row.row c.len-in-loop-row.result (c.len-in-loop-row.ensures
          ∙ c.args.rows.now.rows.ok.0) w.if-row-len.true)
      | else-row-len+then-any w ↦ inr (sym w.any.ensures
          ∙ w.if-any.true)
    ])
    (let most : c.from-most.result ≡ c.args.limit = c.loop-row.invariant.most in let less : c.loop-row.cycle <
    c.from-most.result = omega arith in omega arith) c.run_row.ensures.passed
    c.in-Over.end c.in-Over.turn (Outside c.in-Err.word) c.in-Over.is c.in-Err.ensures.position in
    let noted : AreNoted (text_of c.args.rows.now) c.args.state.now.machine
    (on_to c.loop-row.invariant.noted.path c.loop-row.row c.loop-row.cycle) c.note_packet.new.faults.items =
    noted_row (text_of c.args.rows.now) c.args.first c.args.limit c.args.state.now.machine
    c.loop-row.invariant.noted.path c.loop-row.row c.loop-row.cycle
    (on_way c.loop-row.underway.pipe c.loop-row.underway.turns c.loop-row.state.machine)
    c.loop-row.faults.items c.note_packet.new.faults.items c.loop-row.invariant.noted.there
    c.loop-row.invariant.noted.noted
    (c.in_ok-note_packet.ensures ∙ ap (λ insns. with_faults c.loop-row.faults.items
    (faults_at c.loop-row.state.machine insns)) c.insns_of.ensures) in
    noted_flight (text_of c.args.rows.now) c.args.first c.args.limit c.args.state.now.machine
    (on_to c.loop-row.invariant.noted.path c.loop-row.row c.loop-row.cycle) c.note_packet.new.faults.items
    c.come_down-in-Err.result.stop c.come_down-in-Err.result.cycles c.come_down-in-Err.new.state.machine noted
    (register_flies (text_of c.args.rows.now) c.args.first c.args.limit c.args.state.now.machine
    (on_to c.loop-row.invariant.noted.path c.loop-row.row c.loop-row.cycle) c.in-Err.word c.in-Over.end
    (on_way c.run_row.new.underway.pipe c.run_row.new.underway.turns c.run_row.new.state.machine)
    (on_way c.come_down-in-Err.new.self.pipe c.come_down-in-Err.new.self.turns c.come_down-in-Err.new.state.machine)
    c.come_down-in-Err.result over.0
    c.come_down-in-Err.ensures.flown c.come_down-in-Err.ensures.landed)

pub loop-row-smaller : goal.loop-row-smaller
loop-row-smaller c =
    let over = was_over (text_of c.args.rows.now) c.args.first c.args.limit c.args.state.now.machine
    c.loop-row.invariant.noted.path c.loop-row.row c.loop-row.cycle
    (on_way c.loop-row.underway.pipe c.loop-row.underway.turns c.loop-row.state.machine)
    (on_way c.run_row.new.underway.pipe c.run_row.new.underway.turns c.run_row.new.state.machine)
    c.run_row.result c.requires.rows c.loop-row.invariant.noted.there
    (elim c.if-row-len.branch [
      | then-row-len w ↦ inl
          (inside c.args.rows.now c.loop-row.row c.len-in-loop-row.result (c.len-in-loop-row.ensures
          ∙ c.args.rows.now.rows.ok.0) w.if-row-len.true)
      | else-row-len+then-any w ↦ inr (sym w.any.ensures
          ∙ w.if-any.true)
    ])
    (let most : c.from-most.result ≡ c.args.limit = c.loop-row.invariant.most in let less : c.loop-row.cycle <
    c.from-most.result = omega arith in omega arith) c.run_row.ensures.passed
    c.in-Over.end c.in-Over.turn (At c.in-Ok.next) c.in-Over.is c.in-Ok.ensures.position in
    let later : c.loop-row.cycle < c.in-Over.end = over.1 in
    let before : c.loop-row.cycle < c.from-most.result = omega arith in
    let smaller : c.from-most.result - c.in-Over.end < c.from-most.result - c.loop-row.cycle = omega arith in
    smaller

pub loop-row-preserved : goal.loop-row-preserved
loop-row-preserved c =
    let over = was_over (text_of c.args.rows.now) c.args.first c.args.limit c.args.state.now.machine
    c.loop-row.invariant.noted.path c.loop-row.row c.loop-row.cycle
    (on_way c.loop-row.underway.pipe c.loop-row.underway.turns c.loop-row.state.machine)
    (on_way c.run_row.new.underway.pipe c.run_row.new.underway.turns c.run_row.new.state.machine)
    c.run_row.result c.requires.rows c.loop-row.invariant.noted.there
    (elim c.if-row-len.branch [
      | then-row-len w ↦ inl
          (inside c.args.rows.now c.loop-row.row c.len-in-loop-row.result (c.len-in-loop-row.ensures
          ∙ c.args.rows.now.rows.ok.0) w.if-row-len.true)
      | else-row-len+then-any w ↦ inr (sym w.any.ensures
          ∙ w.if-any.true)
    ])
    (let most : c.from-most.result ≡ c.args.limit = c.loop-row.invariant.most in let less : c.loop-row.cycle <
    c.from-most.result = omega arith in omega arith) c.run_row.ensures.passed
    c.in-Over.end c.in-Over.turn (At c.in-Ok.next) c.in-Over.is c.in-Ok.ensures.position in
    let noted : AreNoted (text_of c.args.rows.now) c.args.state.now.machine
    (on_to c.loop-row.invariant.noted.path c.loop-row.row c.loop-row.cycle) c.note_packet.new.faults.items =
    noted_row (text_of c.args.rows.now) c.args.first c.args.limit c.args.state.now.machine
    c.loop-row.invariant.noted.path c.loop-row.row c.loop-row.cycle
    (on_way c.loop-row.underway.pipe c.loop-row.underway.turns c.loop-row.state.machine)
    c.loop-row.faults.items c.note_packet.new.faults.items c.loop-row.invariant.noted.there
    c.loop-row.invariant.noted.noted
    (c.in_ok-note_packet.ensures ∙ ap (λ insns. with_faults c.loop-row.faults.items
    (faults_at c.loop-row.state.machine insns)) c.insns_of.ensures) in
    let later : c.loop-row.cycle < c.in-Over.end = over.1 in
    let before : c.loop-row.cycle < c.from-most.result = omega arith in
    let end : c.in-Over.end ≤ c.loop-row.cycle + 2 ^ 32 = c.in-Over.ensures.end in
    let row : c.loop-row.row ≤ 2 ^ 32 + c.loop-row.cycle = c.loop-row.invariant.row in
    let next : c.in-Ok.next ≤ max (c.loop-row.row + 1) (2 ^ 32) = c.in-Ok.ensures.bound in
    let capacity : length c.args.state.now.machine.faults + 8 * (length c.args.rows.now.rows.items + 1) ≤ line_capacity
    c.loop-row.state = c.loop-row.invariant.capacity in
    let same : line_capacity c.run_row.new.state ≡ line_capacity c.loop-row.state = c.run_row.ensures.capacity in
    record {
      noted = record {
        path = on_to c.loop-row.invariant.noted.path c.loop-row.row c.loop-row.cycle;
        there = over.0;
        noted = noted;
      };
      capacity = omega arith;
      row = omega arith;
      cycle = omega arith;
      most = c.loop-row.invariant.most;
    }

pub returns : goal.returns
returns c =
    let size : length (text_of c.args.rows.now).rows ≡ length c.args.rows.now.rows.items = text_size c.args.rows.now in
    let count : c.len-in-loop-row.result ≡ length c.args.rows.now.rows.items = c.len-in-loop-row.ensures
    ∙ c.args.rows.now.rows.ok.0 in
    let past : c.len-in-loop-row.result ≤ c.loop-row.row = omega arith in
    noted_flight (text_of c.args.rows.now) c.args.first c.args.limit c.args.state.now.machine
    c.loop-row.invariant.noted.path c.loop-row.faults.items
    c.come_down-2.result.stop c.come_down-2.result.cycles c.come_down-2.new.state.machine
    c.loop-row.invariant.noted.noted
    (end_flies (text_of c.args.rows.now) c.args.first c.args.limit c.args.state.now.machine
    c.loop-row.invariant.noted.path c.loop-row.row c.loop-row.cycle
    (on_way c.loop-row.underway.pipe c.loop-row.underway.turns c.loop-row.state.machine)
    (on_way c.come_down-2.new.self.pipe c.come_down-2.new.self.turns c.come_down-2.new.state.machine)
    c.come_down-2.result c.loop-row.invariant.noted.there
    (omega arith) (sym c.any.ensures ∙ c.if-any.false) c.come_down-2.ensures.flown c.come_down-2.ensures.landed)
