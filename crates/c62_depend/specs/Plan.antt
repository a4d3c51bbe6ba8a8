-- What always holds of the plan of a block.
use Rattle.std.specs.Prelude.{◌≡◌, ℕ, ◌+◌, ◌*◌, ◌<◌, ◌≤◌, ℤ, pos, negsuc, ◌≤ℤ◌, List, length, map, Some, slice_get, IsTrue}
use Rattle.c62_op.specs.declared.register.Unit.{Unit as FunctionalUnit}
use Rattle.c62_insn.specs.declared.insn.Insn.{Insn}
use Rattle.c62_op.specs.Shape.{is_branch}
use Rattle.c62_insn.specs.Insn.{op_of}
use Rattle.c62_read.specs.declared.block.SerialInsn.{SerialInsn}
use Rattle.c62_read.specs.Block.{Serial}
use Rattle.c62_read.specs.declared.limits.TheConstants.{MOST_INSTRUCTIONS}
use Rattle.c62_depend.specs.declared.tables.Tables.{Tables}
use Rattle.c62_pair.specs.Uses.{insns_in}
use Rattle.c62_depend.specs.Latency.{latency}
use Rattle.c62_depend.specs.Direct.{direct_needs, direct_followers}
use Rattle.c62_depend.specs.Since.{AreSince}
use Rattle.c62_depend.specs.Lists.{AreLists}
use Rattle.c62_depend.specs.Height.{height, first_heights}
use Rattle.c62_depend.specs.Side.{side, stands_on}
use Rattle.c62_depend.specs.UnitChoices.{AreUnitChoices}

-- the instructions of a list with lines
abbrev pub unnumbered : List SerialInsn → List Insn
unnumbered entries = map (λ entry. entry.insn) entries

-- the instructions of a block
abbrev pub insns_of : Serial → List Insn
insns_of block = unnumbered block.insns

-- a latency goes from a lower number to a higher one, and is small
pub record IsShort (block : List Insn) (i j : ℕ) (latency : ℤ) : Type 0 where
  pub before : i < j
  pub within : j < length block
  pub least : negsuc 4 ≤ℤ latency
  pub most : latency ≤ℤ pos 5

pub record IsPlan (block : List Insn) : Type 0 where
  pub few : length block ≤ MOST_INSTRUCTIONS
  -- a branch stands only as the last
  pub branch : (i : ℕ) (insn : Insn) → slice_get block i ≡ Some insn → IsTrue (is_branch (op_of insn)) → i + 1 ≡ length block
  -- an instruction depends on earlier ones alone, by a latency of -5 to 5
  pub short : (i j : ℕ) (cycles : ℤ) → latency block i j ≡ Some cycles → IsShort block i j cycles
  -- a height is at most five cycles for each instruction
  pub low : (i : ℕ) → i < length block → height block i ≤ 5 * length block
  -- each instruction may stand on some unit, and on units of its side alone
  pub stands : (i : ℕ) → i < length block → (unit : FunctionalUnit) × IsTrue (stands_on block i unit)
  pub on_side : (i : ℕ) (unit : FunctionalUnit) → IsTrue (stands_on block i unit) → unit.side ≡ side block i

-- the tables of a plan are those of its block
pub record AreTables (block : List Insn) (tables : Tables) : Type 0 where
  pub insns : insns_in tables.uses.items ≡ block
  pub since : AreSince tables.uses.items tables.since.items
  pub needs : AreLists (direct_needs block) (length block) tables.needs.items
  pub followers : AreLists (direct_followers block) (length block) tables.followers.items
  pub heights : tables.heights.items ≡ first_heights block (length block)
  pub choices : AreUnitChoices block (length block) tables.choices.items
