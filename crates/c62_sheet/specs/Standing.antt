-- What stands at each spot.
use Rattle.std.specs.Prelude.{◌≡◌, ℕ, ◌+◌, ◌*◌, ◌<◌, List, length, slice_index}
use Rattle.c62_op.specs.Units.{index_of}
use Rattle.c62_insn.specs.declared.insn.Insn.{Insn}
use Rattle.c62_sheet.specs.declared.entry.Spot.{Spot}
use Rattle.c62_sheet.specs.Lawful.{Spots, IsAt}

-- the place of a spot in a list with eight units for each cycle
abbrev pub place_of : Spot → ℕ
place_of spot = 8 * spot.cycle + index_of spot.unit

-- a number for each spot of a block: that which stands there, where one does
pub record AreStanding (block : List Insn) (set : Spots) (standing : List ℕ) : Type 0 where
  pub sized : length standing ≡ 40 * length block
  pub within : (place : ℕ) → place < length standing → slice_index standing place < length block
  pub each : (q : ℕ) (s : Spot) → IsAt set q s → slice_index standing (place_of s) ≡ q
