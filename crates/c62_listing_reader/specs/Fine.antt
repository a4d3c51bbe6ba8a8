-- Blocks as they are read that may become packet blocks.
use Rattle.std.specs.Prelude.{◌≡◌, ℕ, ◌+◌, ◌*◌, ◌<◌, ◌≤◌, true, length, All, Option, Some, None, is_some}
use Rattle.std.specs.List.Sorted.{IsNonDecreasingBy}
use Rattle.c62_op.specs.declared.register.Unit.{Unit as FunctionalUnit}
use Rattle.c62_op.specs.Units.{index_of}
use Rattle.c62_read.specs.declared.limits.TheConstants.{MOST_INSTRUCTIONS}
use Rattle.c62_packet.specs.declared.limits.TheConstants.{MOST_CYCLES}
use Rattle.c62_listing_reader.specs.Said.{Part, Draft}

abbrev pub unit_index : Option FunctionalUnit → ℕ
unit_index None = 0
unit_index (Some unit) = index_of unit

abbrev pub part_position : Part → ℕ
part_position part = 8 * part.cycle + unit_index part.parts.unit

-- few instructions in few cycles, in listing order and each with its unit
pub record IsFine (draft : Draft) : Type 0 where
  pub few : length draft.placed ≤ MOST_INSTRUCTIONS
  pub short : draft.cycles ≤ MOST_CYCLES
  pub below : All (λ part. part.cycle < draft.cycles) draft.placed
  pub ordered : IsNonDecreasingBy part_position draft.placed
  pub units : All (λ part. is_some part.parts.unit ≡ true) draft.placed
