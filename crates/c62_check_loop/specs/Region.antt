-- The loop of a block, with the straight instructions around it (docs/CHECK.md, "How it is decided").
use Rattle.std.specs.Prelude.{◌≡◌, ℕ, ◌-◌, ◌+◌, ◌==◌, ◌&&◌, ◌||◌, not, Bool, false, List, [], length, slice_get, Option, Some, None, is_some, if◌then◌else◌}
use Rattle.std.specs.List.{list_any}
use Rattle.c62_op.specs.declared.register.Reg.{Reg}
use Rattle.c62_op.specs.declared.register.Cond.{Cond as Condition}
use Rattle.c62_op.specs.declared.operands.Operands.{Operands}
use Rattle.c62_op.specs.declared.operands.Operands.TheVariants.{Block}
use Rattle.c62_op.specs.Shape.{is_branch}
use Rattle.c62_insn.specs.Insn.{op_of, operands_of, cond_of}
use Rattle.c62_read.specs.declared.block.SerialInsn.{SerialInsn}
use Rattle.c62_read.specs.Block.{Serial}
use Rattle.c62_loop.specs.Counter.{touches}
use Rattle.c62_loop.specs.Loop.{Region}
use Rattle.c62_loop_match.specs.declared.parts.Region.{Region as RegionRead}
use Rattle.c62_loop_match.specs.Parts.{region_of as region_read}

abbrev pub last_of : List SerialInsn → Option SerialInsn
last_of insns = slice_get insns (length insns - 1)

-- ---- the loop

-- the register that a branch to the block of this number tests, where it goes while that isn't 0
abbrev pub tested : ℕ → Operands → Option Condition → Option Reg
tested number (Block target) (Some cond) = if target == number && not cond.negated then Some cond.reg else None
tested number operands cond = None

abbrev pub tested_by : ℕ → Option SerialInsn → Option Reg
tested_by number None = None
tested_by number (Some last) = tested number (operands_of last.insn) (cond_of last.insn)

abbrev pub counter_in : ℕ → Option Serial → Option Reg
counter_in number None = None
counter_in number (Some block) = tested_by number (last_of block.insns)

-- the counter of the block of this number: what its last instruction tests, where that is a branch to the block itself
abbrev pub counter_of : List Serial → ℕ → Option Reg
counter_of blocks number = counter_in number (slice_get blocks number)

-- ---- around it

abbrev pub is_branch_entry : Option SerialInsn → Bool
is_branch_entry None = false
is_branch_entry (Some last) = is_branch (op_of last.insn)

-- the instructions of a block, and none where it ends with a branch
abbrev pub straight_in : List SerialInsn → List SerialInsn
straight_in insns = if is_branch_entry (last_of insns) then [] else insns

abbrev pub straight_of : Option Serial → List SerialInsn
straight_of None = []
straight_of (Some block) = straight_in block.insns

abbrev pub unlabelled_in : Option (List ℕ) → List SerialInsn → List SerialInsn
unlabelled_in None insns = straight_in insns
unlabelled_in (Some name) insns = []

abbrev pub unlabelled_of : Option Serial → List SerialInsn
unlabelled_of None = []
unlabelled_of (Some block) = unlabelled_in block.label block.insns

-- what leads to the block of this number: the block above, where it has no branch
abbrev pub above : List Serial → ℕ → List SerialInsn
above blocks number = if number == 0 then [] else straight_of (slice_get blocks (number - 1))

abbrev pub touches_counter : Option Reg → Option Serial → Bool
touches_counter None block = false
touches_counter (Some counter) None = false
touches_counter (Some counter) (Some block) = list_any (touches counter) block.insns

-- the block below the loop of this number leads to another loop, and belongs to that, or it touches the counter, and stands by itself
abbrev pub is_apart_below : List Serial → ℕ → Bool
is_apart_below blocks number =
    is_some (counter_of blocks (number + 2)) || touches_counter (counter_of blocks number) (slice_get blocks (number + 1))

-- what stands behind it up to the next label: the block below, where it has neither label nor branch
abbrev pub below : List Serial → ℕ → List SerialInsn
below blocks number = if is_apart_below blocks number then [] else unlabelled_of (slice_get blocks (number + 1))

-- The region is the loop of the block of this number.
pub record IsRegionOf (blocks : List Serial) (number : ℕ) (region : Region) : Type 0 where
  pub block : Serial
  pub there : slice_get blocks number ≡ Some block
  pub body : region.body ≡ block.insns
  pub tests : Some region.counter ≡ counter_of blocks number
  pub before : region.before ≡ above blocks number
  pub behind : region.behind ≡ below blocks number
  pub numbered : region.number ≡ number

-- it is found where the block is a loop under a counter, and only there
abbrev pub FindsRegion : List Serial → ℕ → Option RegionRead → Type 0
FindsRegion blocks number None = counter_of blocks number ≡ None
FindsRegion blocks number (Some region) = IsRegionOf blocks number (region_read region)
