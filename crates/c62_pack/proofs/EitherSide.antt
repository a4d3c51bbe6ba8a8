-- A lawful set is lawful on either side.
use Rattle.std.proofs.Common.{ℕ, List, Option, Some, None}
use Rattle.std.specs.Prelude.{slice_get, IsTrue}
use Rattle.std.proofs.lemmas.Bool.{and_parts}
use Rattle.c62_op.specs.declared.register.Unit.{Unit as FunctionalUnit}
use Rattle.c62_op.specs.Takes.{same_side}
use Rattle.c62_insn.specs.declared.insn.Insn.{Insn}
use Rattle.c62_insn.specs.Stands.{may_stand}
use Rattle.c62_depend.specs.Side.{side_in, stands_on, suits_at}
use Rattle.c62_sheet.specs.Lawful.{Spots, IsLawful}
use Rattle.c62_pack.specs.EitherSide.{may_stand_at, IsLawfulOnEitherSide}

suits_may : (block : List Insn) (o : Option Insn) (unit : FunctionalUnit) → IsTrue (suits_at block o unit)
    → IsTrue (may_stand_at o unit)
suits_may block None unit h = h
suits_may block (Some insn) unit h = (and_parts (same_side unit.side (side_in block insn)) (may_stand insn unit) h).1

pub stands_may : (block : List Insn) (i : ℕ) (unit : FunctionalUnit) → IsTrue (stands_on block i unit)
    → IsTrue (may_stand_at (slice_get block i) unit)
unfolding stands_on
stands_may block i unit h = suits_may block (slice_get block i) unit h

pub on_own_side : (block : List Insn) (set : Spots) → IsLawful block set → IsLawfulOnEitherSide block set
on_own_side block set lawful = record {
  sized = lawful.sized;
  units = λ i s at. stands_may block i s.unit (lawful.units i s at);
  within = lawful.within;
  rules = lawful.rules;
  founded = lawful.founded;
  delays = lawful.delays;
}
