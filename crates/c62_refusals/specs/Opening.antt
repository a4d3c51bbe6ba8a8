-- The state from which each text runs.
use Rattle.std.specs.Prelude.{◌≡◌, ℕ, ◌+◌, ◌*◌, ◌%◌, ◌^◌, [], IsTrue}
use Rattle.c62_op.specs.declared.register.Side.{Side}
use Rattle.c62_op.specs.declared.register.Side.TheVariants.{A, B}
use Rattle.c62_op.specs.declared.register.Reg.{Reg}
use Rattle.c62_serial.specs.State.{Machine, IsZero, word_in}
use Rattle.c62_serial.specs.Memory.{with_bytes}

-- nine times its number, on side B five more: A4, from which words are loaded, is aligned, and B4 is not
abbrev pub word_on : Side → ℕ → ℕ
word_on A number = 9 * number
word_on B number = 9 * number + 5

-- the word at an address
abbrev pub value_at : ℕ → ℕ
value_at address = (address * 1000003) % 2 ^ 32

abbrev pub poked : ℕ → Machine → Machine
poked address machine = with_bytes address 4 (value_at address) machine

-- each register has a word of its own, and so have the three words from address 36 on; all else is zero
pub record IsOpening (machine : Machine) : Type 0 where
  pub zero : Machine
  pub is_zero : IsZero zero
  pub registers : (reg : Reg) → word_in machine reg ≡ word_on reg.side reg.number
  pub memory : machine.memory ≡ (poked 44 (poked 40 (poked 36 zero))).memory
  pub faults : machine.faults ≡ []
