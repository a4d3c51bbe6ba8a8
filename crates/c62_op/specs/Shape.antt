-- What an instruction reads and writes, and when, from its operation and operands (docs/MACHINE.md, "Reads and writes",
-- "Cycles and delays", "Cross paths" and "Data paths").
use Rattle.std.specs.Prelude.{ℕ, Bool, true, false, ◌||◌, not, if◌then◌else◌, List, [], ◌∷◌, ◌++◌, Option, Some, None}
use Rattle.c62_op.specs.declared.register.Side.{Side}
use Rattle.c62_op.specs.declared.register.Side.TheVariants.{B}
use Rattle.c62_op.specs.declared.register.Reg.{Reg}
use Rattle.c62_op.specs.declared.operands.Op.{Op}
use Rattle.c62_op.specs.declared.operands.Op.TheVariants.{B as Branch}
use Rattle.c62_op.specs.declared.operands.AddressForm.{AddressForm}
use Rattle.c62_op.specs.declared.operands.AddressForm.TheVariants.{Plus, Minus}
use Rattle.c62_op.specs.declared.operands.Offset.{Offset}
use Rattle.c62_op.specs.declared.operands.Offset.TheVariants.{Constant as ByConstant, Register as ByRegister}
use Rattle.c62_op.specs.declared.operands.Operands.{Operands}
use Rattle.c62_op.specs.declared.operands.Operands.TheVariants.{Three, ConstantFirst, ConstantSecond, Two, Field, Constant, Access, Block, Register}
use Rattle.c62_op.specs.Table.{row_of, loads, stores}
use Rattle.c62_op.specs.Takes.{same_side}

-- the delay slots of an operation's result (SPRU189, "Delay Slots")
abbrev pub delay_of : Op → ℕ
delay_of op = (row_of op).delay

abbrev pub is_store : Op → Bool
is_store op = stores (row_of op).memory

abbrev pub is_load : Op → Bool
is_load op = loads (row_of op).memory

abbrev pub is_branch : Op → Bool
is_branch Branch = true
is_branch _ = false

-- a load, a store or a branch
abbrev pub accesses_or_branches : Op → Bool
accesses_or_branches op = is_load op || is_store op || is_branch op

-- the side of an instruction, where its operands decide it
abbrev pub side_of : Operands → Option Side
side_of (Three _ _ d) = Some d.side
side_of (ConstantFirst _ _ d) = Some d.side
side_of (ConstantSecond _ _ d) = Some d.side
side_of (Two _ d) = Some d.side
side_of (Field _ _ _ d) = Some d.side
side_of (Constant _ d) = Some d.side
side_of (Access _ base _ _) = Some base.side
side_of (Block _) = None
side_of (Register _) = Some B

-- whether the destination is a source too
abbrev pub reads_destination : Op → Bool
reads_destination op = (row_of op).destination_is_source

abbrev pub offset_reads : Offset → List Reg
offset_reads (ByConstant _) = []
offset_reads (ByRegister reg) = reg ∷ []

-- the register operands in the order of the text; for a store the source, the base, the offset
abbrev pub reads_of : Op → Operands → List Reg
reads_of op (Three a b _) = a ∷ b ∷ []
reads_of op (ConstantFirst _ a _) = a ∷ []
reads_of op (ConstantSecond a _ _) = a ∷ []
reads_of op (Two a _) = a ∷ []
reads_of op (Field a _ _ _) = a ∷ []
reads_of op (Constant _ d) = if reads_destination op then d ∷ [] else []
reads_of op (Access reg base _ offset) = (if is_store op then reg ∷ [] else []) ++ base ∷ offset_reads offset
reads_of op (Block _) = []
reads_of op (Register target) = target ∷ []

-- whether the base is written: all forms but *+R[k] and *-R[k] (SPRU189, "Addressing Modes")
abbrev pub changes_base : AddressForm → Bool
changes_base Plus = false
changes_base Minus = false
changes_base _ = true

-- each register that is written, with the delay of the write; for a load the base before the destination
abbrev pub writes_of : Op → Operands → List (Reg × ℕ)
writes_of op (Three _ _ d) = (d, delay_of op) ∷ []
writes_of op (ConstantFirst _ _ d) = (d, delay_of op) ∷ []
writes_of op (ConstantSecond _ _ d) = (d, delay_of op) ∷ []
writes_of op (Two _ d) = (d, delay_of op) ∷ []
writes_of op (Field _ _ _ d) = (d, delay_of op) ∷ []
writes_of op (Constant _ d) = (d, delay_of op) ∷ []
writes_of op (Access reg base form _) =
    (if changes_base form then (base, 0) ∷ [] else []) ++ (if is_load op then (reg, delay_of op) ∷ [] else [])
writes_of op (Block _) = []
writes_of op (Register _) = []

-- the data path of an access is that of the register that it loads or stores (SPRU189, "Memory, Load, and Store Paths")
abbrev pub data_path_of : Operands → Option Side
data_path_of (Access reg _ _ _) = Some reg.side
data_path_of _ = None

-- whether a source comes over the cross path to a unit of this side (SPRU189, "Register File Cross Paths")
abbrev pub crosses_to : Side → Operands → Bool
crosses_to side (Three a b _) = not (same_side a.side side) || not (same_side b.side side)
crosses_to side (ConstantFirst _ a _) = not (same_side a.side side)
crosses_to side (ConstantSecond a _ _) = not (same_side a.side side)
crosses_to side (Two a _) = not (same_side a.side side)
crosses_to side (Field a _ _ _) = not (same_side a.side side)
crosses_to side (Register target) = not (same_side target.side side)
crosses_to side _ = false
