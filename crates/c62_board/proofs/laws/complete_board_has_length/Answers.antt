use Rattle.std.proofs.Common.{arith, sym}
use Rattle.std.proofs.lemmas.List.{length-map}
use Rattle.c62_read.specs.declared.block.SerialInsn.{SerialInsn}
use Rattle.c62_depend.specs.Plan.{insns_of}
use Rattle.c62_board.proofs.Landings.{lands_within, length_short}
use Rattle.c62_board.proofs.laws.complete_board_has_length.Goals as goal

pub returns-clause-lands : goal.returns-clause-lands
returns-clause-lands c =
    let sound = c.plan.ensures.sound in
    λ insn at. lands_within (insns_of c.args.board.now.plan) c.args.board.now.spots sound.plan sound.lawful c.args.i
    insn c.in-Some.spot at (sym c.in-Some.ensures)

pub returns-clause-short : goal.returns-clause-short
returns-clause-short c =
    let sound = c.plan.ensures.sound in
    let short = length_short (insns_of c.args.board.now.plan) c.args.board.now.spots sound.plan sound.lawful in
    let same = length-map c.args.board.now.plan.insns (λ (entry : SerialInsn). entry.insn) in
    omega (arith, short, same)
