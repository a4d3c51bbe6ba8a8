use Rattle.std.proofs.Common.{◌≡◌, ℕ, ◌+◌, ◌<◌, List, [], ◌++◌, length, Option, Some, None, sym, ◌∙◌, subst}
use Rattle.std.specs.Prelude.{zip}
use Rattle.std.specs.Option.{option_to_list}
use Rattle.c62_op.specs.declared.register.Reg.{Reg}
use Rattle.c62_op.specs.declared.operands.Op.{Op}
use Rattle.c62_insn.specs.Action.{base_writes, base_values, load_writes}
use Rattle.c62_insn.specs.Insn.{op_of}
use Rattle.c62_op.specs.Shape.{delay_of}
use Rattle.c62_serial.specs.State.{byte_in}
use Rattle.c62_serial.specs.Memory.{placed_from}
use Rattle.c62_serial.specs.Effect.{loaded}
use Rattle.c62_pipe.specs.Flight.{Slot, due, with_write, with_writes, FitsSlots}
use Rattle.c62_pipe.proofs.Slots.{room_for}
use Rattle.c62_pipe.proofs.pipe.Pipe.transfer.Goals as goal
use Rattle.c62_pipe.proofs.pipe.Pipe.transfer.Goals.{in-Some, in_default}
use Rattle.std.proofs.Common.{arith}

-- the writes of a base and a destination
abbrev pairs : Op → Option (Reg × ℕ) → Option Reg → Option ℕ → List ((Reg × ℕ) × ℕ)
pairs op base loads word = zip (base_writes base ++ load_writes op loads) (base_values base ++ option_to_list word)

-- the ring with a base's write in it
abbrev with_base : ℕ → ℕ → Option (Reg × ℕ) → List Slot → List Slot
with_base cycle line base slots = with_writes cycle line (zip (base_writes base) (base_values base)) slots

room_for_base : (cycle line : ℕ) (op : Op) (base : Option (Reg × ℕ)) (reg : Reg) (value : ℕ) (loads : Option Reg)
    (word : Option ℕ) (slots : List Slot) → base ≡ Some (reg, value)
    → FitsSlots (with_writes cycle line (pairs op base loads word) slots) → length (due slots (cycle + 0)) < 40
room_for_base cycle line op base reg value loads word slots e fits =
    room_for cycle line ((reg, 0), value) (zip (load_writes op loads) (option_to_list word)) slots
    (subst (λ b. FitsSlots (with_writes cycle line (pairs op b loads word) slots)) e fits)

room_for_load : (cycle line : ℕ) (op : Op) (base : Option (Reg × ℕ)) (loads : Option Reg) (word : Option ℕ) (reg : Reg)
    (value : ℕ) (slots : List Slot) → loads ≡ Some reg → word ≡ Some value
    → FitsSlots (with_writes cycle line (pairs op base loads word) slots)
    → length (due (with_base cycle line base slots) (cycle + delay_of op)) < 40
room_for_load cycle line op base loads word reg value slots e f fits =
    of_base base (subst (λ l. FitsSlots (with_writes cycle line (pairs op base l (Some value)) slots)) e
    (subst (λ w. FitsSlots (with_writes cycle line (pairs op base loads w) slots)) f fits))
  where
    of_base : (base : Option (Reg × ℕ))
        → FitsSlots (with_writes cycle line (pairs op base (Some reg) (Some value)) slots)
        → length (due (with_base cycle line base slots) (cycle + delay_of op)) < 40
    of_base None h = room_for cycle line ((reg, delay_of op), value) [] slots h
    of_base (Some b) h = room_for cycle line ((reg, delay_of op), value) []
        (with_write cycle line slots ((b.0, 0), b.1)) h

pub schedule-requires-clause-room : goal.schedule-requires-clause-room
schedule-requires-clause-room c = grind (
  arith,
  room_for_base c.args.cycle c.args.placed.now.line (op_of c.args.placed.now.insn) c.args.transfer.base c.in-Some.base
      c.in-Some.word c.args.transfer.loads (loaded (byte_in c.args.state.now.machine) (op_of c.args.placed.now.insn)
      (placed_from c.args.state.now.machine.base (Some c.args.transfer.access))) c.args.self.now.slots c.in-Some.is
      c.requires.fits,
)

ring : (c : goal.After-schedule-arg-2-1)
    → c.match-transfer.self-inside.ring ≡ with_base c.args.cycle c.args.placed.now.line c.args.transfer.base
    c.args.self.now.slots
ring c = grind (arith, in-Some, in_default)

pub schedule-requires-2-clause-room : goal.schedule-requires-2-clause-room
schedule-requires-2-clause-room c = grind (
  arith,
  room_for_load c.args.cycle c.args.placed.now.line (op_of c.args.placed.now.insn) c.args.transfer.base
      c.args.transfer.loads (loaded (byte_in c.args.state.now.machine) (op_of c.args.placed.now.insn) (placed_from
      c.args.state.now.machine.base (Some c.args.transfer.access))) c.in-Some-loads.reg c.in-Some-loaded.word
      c.args.self.now.slots c.in-Some-loads.is (sym c.access-loaded.ensures.loaded ∙ c.in-Some-loaded.is)
      c.requires.fits,
  ring c,
)
