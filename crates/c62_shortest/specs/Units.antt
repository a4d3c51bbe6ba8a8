-- Blocks that differ in the units that are written alone (docs/SCHEDULING.md, "Either side").
use Rattle.std.specs.Prelude.{◌≡◌, ◌⊎◌, List, [], ◌∷◌, None}
use Rattle.c62_insn.specs.declared.insn.Insn.{Insn}
use Rattle.c62_insn.specs.Insn.{IsSameInsn, unit_of}

-- the same instruction; a unit may be written where none was
pub record IsWithUnit (insn other : Insn) : Type 0 where
  pub same : IsSameInsn insn other
  pub written : (unit_of other ≡ unit_of insn) ⊎ (unit_of insn ≡ None)

-- one for one
abbrev pub AreWithUnits : List Insn → List Insn → Type 0
AreWithUnits [] [] = Unit {0}
AreWithUnits (insn ∷ block) (other ∷ others) = IsWithUnit insn other × AreWithUnits block others
AreWithUnits _ _ = ⊥
