-- What is told of a text, as a relation: which write it is that is read too early.
use Rattle.std.specs.Prelude.{◌≡◌, ℕ, ◌+◌, ◌≤◌, true, false, List, ◌∷◌, ◌++◌, Contains, Some, None}
use Rattle.std.specs.List.{list_any}
use Rattle.c62_op.specs.declared.register.Reg.{Reg}
use Rattle.c62_op.specs.Shape.{writes_of}
use Rattle.c62_adopt_cut.specs.Blocks.{Issue, Draft}
use Rattle.c62_adopt_cut.specs.Text.{Cut}
use Rattle.c62_adopt_cut.specs.Flight.{branches, next_start}
use Rattle.c62_adopt_late.specs.declared.late.Late.{Late}
use Rattle.c62_adopt_late.specs.Late.{cycle_at, is_read_old, first_late}

-- An instruction of a block without a branch writes the register. That lands in the cycle in which the block below begins, or later, and
-- below the register is read by then, where nothing has set it before.
pub record IsLate (end : ℕ) (drafts : List Draft) (late : Late) : Type 0 where
  pub front : List Draft
  pub draft : Draft
  pub behind : List Draft
  pub whole : drafts ≡ front ++ draft ∷ behind
  pub alone : list_any branches draft.issues ≡ false
  pub issue : Issue
  pub inside : Contains draft.issues issue
  pub write : Reg × ℕ
  pub writes : Contains (writes_of issue.parts.op issue.parts.operands) write
  pub flies : next_start end behind ≤ cycle_at draft.start issue + write.1
  pub read : is_read_old write.0 (cycle_at draft.start issue + write.1) behind ≡ true
  pub reg : late.reg ≡ write.0
  pub line : late.line ≡ issue.line

-- what is told is one, and where nothing is told there is none
pub record LateIsTold (cut : Cut) : Type 0 where
  pub some : (late : Late) → first_late cut ≡ Some late → IsLate cut.cycles cut.drafts late
  pub none : first_late cut ≡ None → (late : Late) → IsLate cut.cycles cut.drafts late → ⊥
