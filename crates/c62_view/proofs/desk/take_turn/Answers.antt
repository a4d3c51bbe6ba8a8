use Rattle.std.proofs.Common.{◌<◌, ◌++◌, List, length, ap, sym, ◌∙◌, arith}
use Rattle.c62_read.specs.Block.{Serial}
use Rattle.c62_sheet.specs.declared.entry.Entry.{Entry}
use Rattle.c62_view.specs.Course.{Course, gone_on}
use Rattle.c62_view.proofs.Stepping.{adds_many, adds_same, adds_some, no_entries, stepped}
use Rattle.c62_view.proofs.desk.take_turn.Goals as goal

pub returns-then-is_empty-clause-step : goal.returns-then-is_empty-clause-step
returns-then-is_empty-clause-step c =
    no_entries c.args.board.now c.args.side c.in-Ok.turn c.in-Ok.entries.items c.in-Ok.ensures.ahead
    (grind (arith, c.is_empty.ensures, c.if-is_empty.true))

pub returns-clause-followed : goal.returns-clause-followed
returns-clause-followed c =
    let new = stepped c.args.board.now c.room.new.self c.step.new.self c.args.side c.in-Ok.turn c.step.result
    c.in-Ok.entries.items c.len.result
    c.in-Ok.ensures.ahead c.in-Ok-room.ensures.room c.len.ensures.value c.step.ensures in
    c.in-Ok-hand_over.ensures.ok
    ∙ ap (λ (h : Course). gone_on h c.in-Ok.entries.items) c.requires
    ∙ sym (ap (λ (p : Serial). (p, c.args.board.now.journal ++ c.in-Ok.entries.items)) new.0)
    ∙ sym (ap (λ (es : List Entry). (c.step.new.self.plan, es)) new.1)

pub returns-clause-begins : goal.returns-clause-begins
returns-clause-begins c =
    let new = stepped c.args.board.now c.room.new.self c.step.new.self c.args.side c.in-Ok.turn c.step.result
    c.in-Ok.entries.items c.len.result
    c.in-Ok.ensures.ahead c.in-Ok-room.ensures.room c.len.ensures.value c.step.ensures in
    (c.in-Ok.entries.items, sym new.1)

pub returns-in_default-clause-step : goal.returns-in_default-clause-step
returns-in_default-clause-step c = adds_many c.args.board.now c.args.side c.in_default.ensures.many

pub returns-in_default-room-clause-step : goal.returns-in_default-room-clause-step
returns-in_default-room-clause-step c =
    let some : 0 < length c.in-Ok.entries.items = grind (arith, c.is_empty.ensures, c.if-is_empty.false) in
    adds_same c.args.board.now c.room.new.self c.args.side c.in-Ok.turn c.in-Ok.entries.items c.in-Ok.ensures.ahead some
    c.in_default-room.ensures.unchanged

pub returns-in_default-hand_over-clause-step : goal.returns-in_default-hand_over-clause-step
returns-in_default-hand_over-clause-step c =
    let some : 0 < length c.in-Ok.entries.items = grind (arith, c.is_empty.ensures, c.if-is_empty.false) in
    let gains = c.in-Ok-room.ensures.room in
    adds_some c.args.board.now c.room.new.self c.args.side c.in-Ok.turn c.in-Ok.entries.items c.in-Ok.ensures.ahead some
    gains.same gains.more
