-- Since when the registers that an excuse asks for keep their values.
use Rattle.std.specs.Prelude.{◌≡◌, ℕ, ◌-◌, ◌<◌, ◌≤◌, nat_lt, nat_le, Bool, false, ◌&&◌, List, length, slice_index, slice_index_or, Option, Some}
use Rattle.c62_op.specs.declared.register.Reg.{Reg}
use Rattle.c62_op.specs.declared.register.Cond.{Cond as Condition}
use Rattle.c62_op.specs.Register.{register_index}
use Rattle.c62_insn.specs.declared.insn.Insn.{Insn}
use Rattle.c62_insn.specs.Insn.{cond_of}
use Rattle.c62_rules.specs.Dependence.{is_written_by, Range, range_in, are_apart}
use Rattle.c62_depend.specs.declared.since.Since.{Since}
use Rattle.c62_pair.specs.declared.covered.Covered.{Covered}
use Rattle.c62_pair.specs.declared.uses.Uses.{Uses}
use Rattle.c62_pair.specs.Covered.{range_is}
use Rattle.c62_pair.specs.Uses.{insns_in}

-- from this number on, and before j, no instruction writes the register: one from an earlier number on does
abbrev pub StandsSince : List Insn → ℕ → Reg → ℕ → Type 0
StandsSince block j reg number = (i : ℕ) → i ≤ j → is_written_by block i (j - i) reg ≡ nat_lt i number

-- of each register such a number
abbrev pub StandSince : List Insn → ℕ → List ℕ → Type 0
StandSince block j numbers = (reg : Reg) → StandsSince block j reg (slice_index numbers (register_index reg))

-- the numbers of q, number j: of the register of its condition, and of the base of its access
pub record IsSince (block : List Insn) (j : ℕ) (q : Insn) (since : Since) : Type 0 where
  pub condition : (cond : Condition) → cond_of q ≡ Some cond → StandsSince block j cond.reg since.condition
  pub base : (range : Range) → range_in (Some q) ≡ Some range → StandsSince block j range.base since.base

-- those of the first instructions, so many of them
pub record AreSinceBefore (uses : List Uses) (count : ℕ) (since : List Since) : Type 0 where
  pub long : length since ≡ count
  pub each : (j : ℕ) (one : Uses) (d : Since) → j < length since → one ≡ slice_index_or uses j one → IsSince (insns_in uses) j one.insn (slice_index_or since j d)

-- those of all
abbrev pub AreSince : List Uses → List Since → Type 0
AreSince uses since = AreSinceBefore uses (length uses) since

-- both are from one base and do not meet, and the base stands since number i or before
abbrev pub apart_since : Option Covered → Option Covered → ℕ → ℕ → Bool
apart_since (Some one) (Some other) base i = are_apart (range_is one) (range_is other) && nat_le base i
apart_since _ _ base i = false
