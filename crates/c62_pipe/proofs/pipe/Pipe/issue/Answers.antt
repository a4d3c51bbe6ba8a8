use Rattle.std.proofs.Common.{◌≡◌, true, sym, ap, subst, [], ◌∷◌}
use Rattle.c62_insn.specs.declared.action.Action.TheVariants.{Write, Transfer as Transfers}
use Rattle.c62_insn.specs.Insn.{op_of}
use Rattle.c62_op.specs.Shape.{delay_of}
use Rattle.c62_serial.specs.State.{word_in}
use Rattle.c62_serial.specs.Effect.{Act, runs}
use Rattle.c62_serial.proofs.ActionLemmas.{act_of-action}
use Rattle.c62_pipe.specs.Flight.{Flight, with_writes, FitsSlots}
use Rattle.c62_pipe.proofs.Slots.{room_for}
use Rattle.c62_pipe.proofs.pipe.Pipe.issue.Goals as goal
use Rattle.std.proofs.Common.{arith}

pub schedule-requires-clause-room : goal.schedule-requires-clause-room
schedule-requires-clause-room c =
    let running : runs (word_in c.args.state.now.machine) c.args.placed.now.insn ≡ true = rw c.registers.ensures at
    (sym c.in_ok-reg.ensures.runs) in
    let did = act_of-action c.args.placed.now.insn c.args.state.now.machine c.registers.result.now
    (Write c.in-Write.reg c.in-Write.word) c.registers.ensures running
    (rw c.in-Write.is at c.in_ok-reg.ensures.action) in
    let fits : FitsSlots (with_writes c.args.cycle c.args.placed.now.line
    (((c.in-Write.reg, delay_of (op_of c.args.placed.now.insn)), c.in-Write.word) ∷ []) c.args.self.now.slots)
    = subst (λ (act : Act). FitsSlots
    (with_writes c.args.cycle c.args.placed.now.line act.writes c.args.self.now.slots)) did c.requires.fits in
    let same : c.args.self.now.slots ≡ c.self.inside.ring = sym (ap (λ (flight : Flight). flight.slots) c.self.view_is)
    in
    rw c.delay-delay.ensures (room_for c.args.cycle c.args.placed.now.line
    ((c.in-Write.reg, delay_of (op_of c.args.placed.now.insn)), c.in-Write.word) [] c.self.inside.ring
    (rw same at fits))

pub transfer-requires-clause-fits : goal.transfer-requires-clause-fits
transfer-requires-clause-fits c =
    let running : runs (word_in c.args.state.now.machine) c.args.placed.now.insn ≡ true = rw c.registers.ensures at
    (sym c.in_ok-reg.ensures.runs) in
    let did = act_of-action c.args.placed.now.insn c.args.state.now.machine c.registers.result.now
    (Transfers c.in-Transfer.transfer) c.registers.ensures running
    (rw c.in-Transfer.is at c.in_ok-reg.ensures.action) in
    subst (λ (act : Act). FitsSlots (with_writes c.args.cycle c.args.placed.now.line act.writes c.args.self.now.slots))
    did c.requires.fits

pub returns-in-Transfer-clause-machine : goal.returns-in-Transfer-clause-machine
returns-in-Transfer-clause-machine c = grind (
  arith,
  act_of-action c.args.placed.now.insn c.args.state.now.machine c.registers.result.now (Transfers
      c.in-Transfer.transfer) c.registers.ensures,
)

pub returns-in-Transfer-clause-flight : goal.returns-in-Transfer-clause-flight
returns-in-Transfer-clause-flight c = grind (
  arith,
  act_of-action c.args.placed.now.insn c.args.state.now.machine c.registers.result.now (Transfers
      c.in-Transfer.transfer) c.registers.ensures,
)
