-- The first packet rule that an instruction breaks together with others, in listing order (docs/MACHINE.md, "Packet rules").
use Rattle.std.specs.Prelude.{◌≡◌, ℕ, ◌+◌, min, max, Bool, false, not, ◌==◌, ◌&&◌, nat_le, nat_lt, if◌then◌else◌, List, find, Option, Some, None, option_map}
use Rattle.std.specs.List.{list_any}
use Rattle.c62_op.specs.declared.register.Reg.{Reg}
use Rattle.c62_op.specs.declared.register.Cond.{Cond as Condition}
use Rattle.c62_op.specs.Takes.{same_reg}
use Rattle.c62_insn.specs.Insn.{cond_of, register_writes}
use Rattle.c62_rules.specs.declared.resource.CycleRule.{CycleRule}
use Rattle.c62_rules.specs.Dependence.{are_opposite}
use Rattle.c62_row.specs.declared.row.Row.{Row}
use Rattle.c62_row.specs.declared.row.Uses.{Uses}
use Rattle.c62_row.specs.Row.{Tells}
use Rattle.c62_packet.specs.declared.placed.Placed.{Placed}
use Rattle.c62_packet.specs.declared.fault.PacketRule.{PacketRule}
use Rattle.c62_packet.specs.declared.fault.PacketRule.TheVariants.{InCycle, P5}
use Rattle.c62_packet.specs.Fault.{rank_of}

-- a write that is issued in one cycle lands in this register in another
abbrev pub is_landing : ℕ → Reg → ℕ → Reg × ℕ → Bool
is_landing from reg cycle write = same_reg write.0 reg && (from + write.1 == cycle)

-- a write of the instruction lands in this register in this cycle
abbrev pub lands : Reg → ℕ → Placed → Bool
lands reg cycle q = list_any (is_landing q.cycle reg cycle) (register_writes q.insn)

-- a write that lands in this register from one cycle on and before another
abbrev pub is_between : ℕ → ℕ → Reg → ℕ → Reg × ℕ → Bool
is_between from to reg cycle write = same_reg write.0 reg && (nat_le from (cycle + write.1) && nat_lt (cycle + write.1) to)

abbrev pub lands_between : ℕ → ℕ → Reg → Placed → Bool
lands_between from to reg q = list_any (is_between from to reg q.cycle) (register_writes q.insn)

abbrev pub excused_under : List Placed → ℕ → ℕ → Option Condition → Option Condition → Bool
excused_under whole from to (Some one) (Some other) = are_opposite one other && not (list_any (lands_between from to one.reg) whole)
excused_under whole from to _ _ = false

-- what two of a block write may land together
abbrev pub are_excused : List Placed → Placed → Placed → Bool
are_excused whole p q = excused_under whole (min p.cycle q.cycle) (max p.cycle q.cycle) (cond_of p.insn) (cond_of q.insn)

-- a write of another lands in this register in this cycle, and there is no excuse of the two
abbrev pub clashes : List Placed → Placed → Reg → ℕ → Placed → Bool
clashes whole p reg cycle q = lands reg cycle q && not (are_excused whole p q)

-- another write lands with this one
abbrev pub is_met : List Placed → Placed → List Placed → Reg × ℕ → Bool
is_met whole p others write = list_any (clashes whole p write.0 (p.cycle + write.1)) others

abbrev pub landing_beside : List Placed → Placed → List Placed → Option ℕ
landing_beside whole p others = option_map (λ write. p.cycle + write.1) (find (is_met whole p others) (register_writes p.insn))

-- the rule that its row tells, in its cycle, and else a landing
abbrev pub broken_by : ℕ → Option CycleRule → Option ℕ → Option (ℕ × PacketRule)
broken_by cycle (Some rule) landing = Some (cycle, InCycle rule)
broken_by cycle None landing = option_map (λ c. (c, P5)) landing

-- What the instruction, which takes so much, breaks together with others, which take this row of its cycle: the least cycle,
-- and there the first rule.
pub record IsBrokenBeside (row : Row) (uses : Uses) (whole : List Placed) (p : Placed) (others : List Placed) (found : Option (ℕ × PacketRule)) : Type 0 where
  pub told : Option CycleRule
  pub tells : Tells row uses told
  pub is : found ≡ broken_by p.cycle told (landing_beside whole p others)

abbrev pub is_before : ℕ × PacketRule → ℕ × PacketRule → Bool
is_before (cycle, rule) (other, next) = if cycle == other then nat_lt (rank_of rule) (rank_of next) else nat_lt cycle other

abbrev pub earlier : Option (ℕ × PacketRule) → Option (ℕ × PacketRule) → Option (ℕ × PacketRule)
earlier None found = found
earlier found None = found
earlier (Some one) (Some other) = if is_before other one then Some other else Some one
