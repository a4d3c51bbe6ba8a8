-- What the instructions before one did to the registers, as far as it may matter to that one.
use Rattle.std.specs.Prelude.{◌≡◌, ℕ, ◌<◌, nat_lt, Bool, false, ◌&&◌, List, replicate, slice_index_or, slice_get, Option, Some, None}
use Rattle.c62_op.specs.declared.register.Reg.{Reg}
use Rattle.c62_op.specs.Register.{register_index}
use Rattle.c62_insn.specs.declared.insn.Insn.{Insn}
use Rattle.c62_rules.specs.Dependence.{writes_in}
use Rattle.c62_depend.specs.declared.number_set.NumberSet.{NumberSet}
use Rattle.c62_depend.specs.declared.register_users.RegisterUsers.{RegisterUsers}
use Rattle.c62_pair.specs.declared.uses.Uses.{Uses}
use Rattle.c62_pair.specs.Uses.{insns_in}
use Rattle.c62_depend.specs.NumberSet.{number_in}
use Rattle.c62_depend.specs.Direct.{is_open, uses_register, meet_openly}

abbrev pub no_numbers : NumberSet
no_numbers = record { words = replicate 4 0 }

-- the set of a register
abbrev pub at_register : List NumberSet → Reg → NumberSet
at_register sets reg = slice_index_or sets (register_index reg) no_numbers

-- the instruction reads or writes the register
abbrev pub uses_in : Reg → Option Insn → Bool
uses_in reg None = false
uses_in reg (Some insn) = uses_register insn reg

-- number k comes before j, uses a register so, and none between writes that under no condition
abbrev pub is_openly : (Reg → Option Insn → Bool) → List Insn → ℕ → Reg → ℕ → Bool
is_openly so block j reg k = nat_lt k j && (so reg (slice_get block k) && is_open block k j reg)

-- the sets have these numbers, for number j
pub record IsOpenAt (uses : List Uses) (j : ℕ) (known : RegisterUsers) : Type 0 where
  pub writers : (reg : Reg) (k : ℕ) → number_in (at_register known.writers reg) k ≡ is_openly writes_in (insns_in uses) j reg k
  pub users : (reg : Reg) (k : ℕ) → number_in (at_register known.users reg) k ≡ is_openly uses_in (insns_in uses) j reg k

-- the set has the numbers before j that meet it openly
abbrev pub AreOpenly : List Uses → ℕ → NumberSet → Type 0
AreOpenly uses j set =
    (k : ℕ) → number_in set k ≡ (nat_lt k j && meet_openly (insns_in uses) k j (slice_get (insns_in uses) k) (slice_get (insns_in uses) j))
