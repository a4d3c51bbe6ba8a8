-- Where a serial run stands at its loops (docs/CHECK.md, "A run that is looked at").
use Rattle.std.specs.Prelude.{ℕ, ◌+◌, ◌-◌, ◌==◌, ◌&&◌, ◌||◌, not, Bool, true, false, List, length, fold, slice_get, Option, Some, None, is_some, if◌then◌else◌}
use Rattle.c62_op.specs.declared.register.Cond.{Cond as Condition}
use Rattle.c62_op.specs.declared.operands.Operands.{Operands}
use Rattle.c62_op.specs.declared.operands.Operands.TheVariants.{Block}
use Rattle.c62_op.specs.Shape.{is_branch}
use Rattle.c62_insn.specs.Insn.{op_of, operands_of, cond_of}
use Rattle.c62_read.specs.declared.block.SerialInsn.{SerialInsn}
use Rattle.c62_read.specs.Block.{Serial}
use Rattle.c62_apart.specs.declared.visit.Visit.{Visit}

-- ---- blocks

abbrev pub last_of : List SerialInsn → Option SerialInsn
last_of insns = slice_get insns (length insns - 1)

-- a branch to the block of this number, which goes while a register isn't 0
abbrev pub loops_to : ℕ → Operands → Option Condition → Bool
loops_to number (Block target) (Some cond) = target == number && not cond.negated
loops_to number operands cond = false

abbrev pub loops_by : ℕ → Option SerialInsn → Bool
loops_by number None = false
loops_by number (Some last) = loops_to number (operands_of last.insn) (cond_of last.insn)

abbrev pub loops_in : ℕ → Option Serial → Bool
loops_in number None = false
loops_in number (Some block) = loops_by number (last_of block.insns)

-- the block of this number is a loop: it ends with such a branch to itself
abbrev pub is_loop : List Serial → ℕ → Bool
is_loop blocks number = loops_in number (slice_get blocks number)

abbrev pub ends_straight : Option SerialInsn → Bool
ends_straight None = true
ends_straight (Some last) = not (is_branch (op_of last.insn))

abbrev pub straight_in : Option Serial → Bool
straight_in None = false
straight_in (Some block) = ends_straight (last_of block.insns)

-- the block goes on with the next one
abbrev pub is_straight : List Serial → ℕ → Bool
is_straight blocks number = straight_in (slice_get blocks number)

abbrev pub label_in : Option Serial → Bool
label_in None = false
label_in (Some block) = is_some block.label

abbrev pub has_label : List Serial → ℕ → Bool
has_label blocks number = label_in (slice_get blocks number)

-- the block belongs to a loop above it, not to one below
abbrev pub is_behind : List Serial → ℕ → Bool
is_behind blocks number = is_straight blocks number && (not (has_label blocks number) && not (is_loop blocks (number + 1)))

-- From the one block to the other a run stays at a loop: it goes round, comes from the straight block above, or goes on to that behind.
abbrev pub is_joined : List Serial → (last number : ℕ) → Bool
is_joined blocks last number =
    if is_loop blocks number then last == number || (last + 1 == number && is_straight blocks last)
    else is_loop blocks last && (last + 1 == number && is_behind blocks number)

-- ---- visits

-- before the first of so many blocks
abbrev pub first_visit : ℕ → Visit
first_visit count = record { number = count; stay = 0; iteration = 0 }

-- A visit behind another one is the next iteration of its stay, or begins a stay: at a loop with iteration 1, and else with 0.
abbrev pub next_visit : List Serial → Visit → ℕ → Visit
next_visit blocks last number =
    if is_joined blocks last.number number then record { number = number; stay = last.stay; iteration = last.iteration + 1 }
    else record { number = number; stay = last.stay + 1; iteration = if is_loop blocks number then 1 else 0 }

-- the visit that is the last of these numbers
abbrev pub visit_on : List Serial → Visit → List ℕ → Visit
visit_on blocks last numbers = fold (next_visit blocks) last numbers

-- the loop at which a visit stays that isn't the first of its stay
abbrev pub loop_of : List Serial → ℕ → ℕ
loop_of blocks number = if is_loop blocks number then number else number - 1
