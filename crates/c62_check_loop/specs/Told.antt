-- What `same` says (docs/CHECK.md, "How it is decided").
use Rattle.std.specs.Prelude.{◌≡◌, ℕ, ◌+◌, Bool, List, Option, Some, None, IsTrue, All}
use Rattle.c62_op.specs.declared.register.Reg.{Reg}
use Rattle.c62_op.specs.declared.operands.Operands.{Operands}
use Rattle.c62_op.specs.declared.operands.Operands.TheVariants.{Access}
use Rattle.c62_insn.specs.declared.insn.Insn.{Insn}
use Rattle.c62_insn.specs.Insn.{operands_of}
use Rattle.c62_rules.specs.Exclusive.{writes_in}
use Rattle.c62_pair.specs.declared.reg_set.RegSet.{RegSet}
use Rattle.c62_pair.specs.RegSet.{reg_in}
use Rattle.c62_read.specs.declared.block.SerialInsn.{SerialInsn}
use Rattle.c62_read.specs.Block.{Serial}
use Rattle.c62_flight.specs.Text.{Text}
use Rattle.c62_loop.specs.Loop.{Region, Pipelined, interval, last_row}
use Rattle.c62_loop_match.specs.Decide.{Decided}
use Rattle.c62_loop_match.specs.Collapse.{Collapsed}
use Rattle.c62_loop_match.specs.declared.refusal.Refusal.{Refusal}
use Rattle.c62_loop_match.specs.declared.refusal.Refusal.TheVariants.{Early as TooEarly, Branch as Astray}
use Rattle.c62_loop_match.specs.Refusal.{Refuses}
use Rattle.c62_check_loop.specs.declared.verdict.LoopVerdict.{LoopVerdict}
use Rattle.c62_check_loop.specs.declared.verdict.LoopVerdict.TheVariants.{Same, SameBut, Early, Branch}
use Rattle.c62_check_loop.specs.Region.{IsRegionOf, counter_of}
use Rattle.c62_check_loop.specs.Relined.{AreRelined}

-- Rows of these packets, under the lines of the serial text, pipeline the loop: from so many trips on they do what it does, as
-- `pipelined_for_all_trips` of c62_loop says. A pass of their kernel takes so many cycles. They are the rows from the first on, up to
-- the last one.
pub record IsSame (promised : Insn → Insn → Bool) (region : Region) (packets : Text) (trips cycles first last : ℕ) : Type 0 where
  pub loop : Pipelined
  pub most : ℕ
  pub relined : AreRelined packets loop.text
  pub trips_are : trips ≡ most + 1
  pub cycles_are : cycles ≡ interval loop
  pub first_is : first ≡ loop.first
  pub last_is : last ≡ last_row loop
  pub decided : Decided promised region loop most

-- the register that is loaded or stored
abbrev pub data_in : Operands → Option Reg
data_in (Access register _ _ _) = Some register
data_in operands = None

-- The registers that an instruction writes are among these, and so is that into which it loads.
pub record IsNamed (regs : RegSet) (insn : Insn) : Type 0 where
  pub writes : (reg : Reg) → IsTrue (writes_in reg (Some insn)) → IsTrue (reg_in regs reg)
  pub loads : (reg : Reg) → data_in (operands_of insn) ≡ Some reg → IsTrue (reg_in regs reg)

abbrev pub AreNamed : RegSet → List SerialInsn → Type 0
AreNamed regs past = All (λ entry. IsNamed regs entry.insn) past

-- Rows of these packets, under the lines of the serial text, pipeline the loop and begin iterations past the last: from so many trips on they do
-- what it does, as `collapsed_for_all_trips` of c62_loop says, but for registers that are among these.
pub record IsSameBut (promised : Insn → Insn → Bool) (region : Region) (packets : Text) (trips cycles first last : ℕ) (but : RegSet) : Type 0 where
  pub loop : Pipelined
  pub most : ℕ
  pub past : List SerialInsn
  pub relined : AreRelined packets loop.text
  pub trips_are : trips ≡ most + 1
  pub cycles_are : cycles ≡ interval loop
  pub first_is : first ≡ loop.first
  pub last_is : last ≡ last_row loop
  pub collapsed : Collapsed promised region past loop most
  pub named : AreNamed but past

-- Rows of these packets hold the loop, and what they are refused for holds of them.
pub record TellsWhy (promised : Insn → Insn → Bool) (region : Region) (packets : Text) (refusal : Refusal) : Type 0 where
  pub loop : Pipelined
  pub most : ℕ
  pub text_is : loop.text ≡ packets
  pub refuses : Refuses promised region loop most refusal

-- what is told of a loop holds
abbrev pub Tells : (Insn → Insn → Bool) → Region → Text → LoopVerdict → Type 0
Tells promised region packets (Same trips cycles first last) = IsSame promised region packets trips cycles first last
Tells promised region packets (SameBut trips cycles first last but) = IsSameBut promised region packets trips cycles first last but
Tells promised region packets (Early early) = TellsWhy promised region packets (TooEarly early)
Tells promised region packets (Branch line) = TellsWhy promised region packets (Astray line)
Tells promised region packets verdict = Unit {0}

-- it is told of each block that ends with a branch to itself under a counter, and of no other
abbrev pub IsTold : (Insn → Insn → Bool) → List Serial → ℕ → Text → Option LoopVerdict → Type 0
IsTold promised blocks number packets None = counter_of blocks number ≡ None
IsTold promised blocks number packets (Some verdict) = (region : Region) × IsRegionOf blocks number region × Tells promised region packets verdict
