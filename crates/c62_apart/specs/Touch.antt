-- The bytes that a serial run touches from the registers of a promise (docs/CHECK.md, "A run that is looked at").
use Rattle.std.specs.Prelude.{ℕ, zero, suc, Bool, ◌+◌, ◌&&◌, List, [], ◌∷◌, ◌++◌, map, Option, Some, None, if◌then◌else◌}
use Rattle.std.specs.List.{list_any}
use Rattle.c62_op.specs.declared.operands.Operands.{Operands}
use Rattle.c62_op.specs.declared.operands.Operands.TheVariants.{Access as Accesses}
use Rattle.c62_op.specs.declared.register.Reg.{Reg}
use Rattle.c62_op.specs.Takes.{same_reg}
use Rattle.c62_insn.specs.declared.effect.Access.{Access}
use Rattle.c62_insn.specs.Insn.{operands_of}
use Rattle.c62_read.specs.declared.block.SerialInsn.{SerialInsn}
use Rattle.c62_read.specs.Block.{Serial}
use Rattle.c62_serial.specs.declared.serial.Exit.{Exit}
use Rattle.c62_serial.specs.declared.serial.Exit.TheVariants.{Next}
use Rattle.c62_serial.specs.State.{Machine}
use Rattle.c62_serial.specs.Memory.{is_good}
use Rattle.c62_serial.specs.Serial.{act_in, after_entry, serial}
use Rattle.c62_serial.specs.Chain.{block_of}
use Rattle.c62_apart.specs.declared.touch.Touch.{Touch}
use Rattle.c62_apart.specs.declared.visit.Visit.{Visit}
use Rattle.c62_apart.specs.Visit.{next_visit}

-- the register is one of these
abbrev pub is_among : List Reg → Reg → Bool
is_among regs reg = list_any (λ one. same_reg one reg) regs

-- the base of a load or store
abbrev pub base_in : Operands → Option Reg
base_in (Accesses _ base _ _) = Some base
base_in operands = None

-- so many bytes from a place on
abbrev pub touches_from : Visit → (line : ℕ) → Reg → (place count : ℕ) → List Touch
touches_from visit line base place zero = []
touches_from visit line base place (suc count) =
    record { visit = visit; line = line; base = base; byte = place } ∷ touches_from visit line base (place + 1) count

-- those of an access that doesn't fault, from one of these registers
abbrev pub touches_by : List Reg → Visit → (line : ℕ) → Reg → Access → List Touch
touches_by regs visit line base access =
    if is_among regs base && is_good access.address access.size then touches_from visit line base access.address access.size else []

abbrev pub touches_with : List Reg → Visit → (line : ℕ) → Option Reg → Option Access → List Touch
touches_with regs visit line (Some base) (Some access) = touches_by regs visit line base access
touches_with regs visit line _ _ = []

-- those of an instruction that acts on this machine
abbrev pub touches_of : List Reg → Visit → Machine → SerialInsn → List Touch
touches_of regs visit machine entry =
    touches_with regs visit entry.line (base_in (operands_of entry.insn)) (act_in machine entry).access

-- those of instructions that are run one after the other
abbrev pub touches_in : List Reg → Visit → Machine → List SerialInsn → List Touch
touches_in regs visit machine [] = []
touches_in regs visit machine (entry ∷ insns) =
    touches_of regs visit machine entry ++ touches_in regs visit (after_entry entry machine) insns

-- those of the blocks of these numbers, behind this visit
abbrev pub touches_on : List Serial → List Reg → Visit → Machine → List ℕ → List Touch
touches_on blocks regs last machine [] = []
touches_on blocks regs last machine (number ∷ numbers) =
    touches_in regs (next_visit blocks last number) machine (block_of blocks number).insns
    ++ touches_on blocks regs (next_visit blocks last number) (serial (block_of blocks number).insns machine).machine numbers

-- ---- blocks of one instruction

abbrev pub alone : SerialInsn → Serial
alone entry = record { label = None; insns = entry ∷ [] }

-- each instruction of a block as a block of its own
abbrev pub parted : Serial → List Serial
parted block = map alone block.insns

-- where a run goes on behind an instruction that goes on there, where it went on there before
abbrev pub later_exit : Exit → Exit → Exit
later_exit before Next = before
later_exit before taken = taken
