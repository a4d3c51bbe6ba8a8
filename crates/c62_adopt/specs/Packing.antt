-- Blocks of a text that have packets.
use Rattle.std.specs.Prelude.{ℕ, List}
use Rattle.c62_adopt_cut.specs.Blocks.{Draft}
use Rattle.c62_adopt_cut.specs.Laws.{IsFine, IsOver}
use Rattle.c62_op.specs.declared.set.InstructionSet.{InstructionSet}

-- the block is fine, and has nothing in flight where it is over
pub record IsSound (isa : InstructionSet) (drafts : List Draft) (draft : Draft) : Type 0 where
  pub fine : IsFine isa draft
  pub next : ℕ
  pub over : IsOver drafts next draft
